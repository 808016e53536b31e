-- The crate's definitions. A file that the promises do not need says so at its head.
pub mod Sides
pub mod Kinds
pub mod Names
pub mod Numbers
