-- The crate's definitions.
pub mod Accounts
pub mod Beginnings
pub mod Moments
pub mod Sequences
