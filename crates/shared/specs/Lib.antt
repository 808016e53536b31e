-- The crate's definitions. A file that the promises do not need says so at its head.
pub mod Acts
pub mod Hands
pub mod Heavy
pub mod Outgoing
pub mod Posts
pub mod Told
