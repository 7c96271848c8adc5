pub mod Codes
pub mod Pairs
pub mod Telling
