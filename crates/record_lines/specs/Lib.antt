-- The crate's definitions.
pub mod Parts
pub mod Texts
