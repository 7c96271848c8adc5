pub mod Parts
pub mod Failures
pub mod Jumps
pub mod Calls
pub mod Initials
pub mod Values
