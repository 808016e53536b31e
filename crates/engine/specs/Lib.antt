-- The crate's definitions. A file that the promises do not need says so at its head.
pub mod Classes
pub mod Wires
pub mod Turns
pub mod Steps
