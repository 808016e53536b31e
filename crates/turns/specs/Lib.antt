-- The crate's definitions. A file that the promises do not need says so at its head.
pub mod Shares
pub mod Turns
