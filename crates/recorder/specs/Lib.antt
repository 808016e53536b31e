-- The crate's definitions.
pub mod Lending
pub mod Lines
pub mod Records
