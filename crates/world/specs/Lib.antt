-- The crate's definitions. A file that the promises do not need says so at its head.
pub mod Leads
pub mod LeadLaws
pub mod Slots
pub mod States
pub mod Calls
pub mod Steps
pub mod Memory
pub mod Runs
pub mod Due
pub mod Headline
pub mod Support
pub mod Words
pub mod CoreLaws
pub mod Acts
