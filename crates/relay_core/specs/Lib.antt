-- The crate's definitions. A file that the promises do not need says so at its head.
pub mod Calls
pub mod Pairs
pub mod Order
pub mod Replies
pub mod Idle
pub mod Runs
pub mod Laws
pub mod Lending
pub mod Proxy
