pub mod FewPollers
pub mod Slots
