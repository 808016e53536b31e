pub mod Words
pub mod Runs
