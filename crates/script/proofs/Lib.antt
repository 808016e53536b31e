pub mod FirstLine
pub mod Playing
pub mod Keeping
pub mod Telling
