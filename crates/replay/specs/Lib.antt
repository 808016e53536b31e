-- The crate's definitions.
pub mod Traces
