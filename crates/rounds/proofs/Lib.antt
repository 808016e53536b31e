pub mod Acts
pub mod Rounds
