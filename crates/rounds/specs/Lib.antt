-- The crate's definitions. A file that the promises do not need says so at its head.
pub mod Acts
pub mod Episodes
pub mod Openings
pub mod Pollers
pub mod Rounds
