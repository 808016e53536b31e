-- The crate's definitions. A file that the promises do not need says so at its head.
pub mod Faults
pub mod Plans
pub mod Scripts
pub mod Transfers
pub mod Runs
