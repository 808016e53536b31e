pub mod Outgoing
pub mod Slots
pub mod Holding
