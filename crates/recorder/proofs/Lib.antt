-- The crate's lemmas.
pub mod Filling
