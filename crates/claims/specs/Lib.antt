-- The crate's definitions. A file that the promises do not need says so at its head.
pub mod Words
pub mod Views
pub mod Rule
pub mod Seats
pub mod Calls
pub mod Laws
