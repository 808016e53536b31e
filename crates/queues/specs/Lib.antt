-- The crate's definitions. A file that the promises do not need says so at its head.
pub mod Rule
pub mod Steps
pub mod Sleep
