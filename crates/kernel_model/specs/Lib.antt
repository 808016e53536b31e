-- The crate's definitions. A file that the promises do not need says so at its head.
pub mod Ends
pub mod Replies
pub mod Outcome
pub mod Names
pub mod Kernel
pub mod Changes
