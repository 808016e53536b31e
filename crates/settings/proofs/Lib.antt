pub mod Unknown
pub mod Unique
