pub mod Steps
pub mod Seats
