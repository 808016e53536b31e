-- The crate's definitions. A file that the promises do not need says so at its head.
pub mod Threads
pub mod Likeness
pub mod Rest
pub mod Slots
pub mod Whole
pub mod Late
