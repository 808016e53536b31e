-- The crate's definitions. A file that the promises do not need says so at its head.
pub mod Addresses
pub mod Table
pub mod Document
pub mod Faults
pub mod Calls
