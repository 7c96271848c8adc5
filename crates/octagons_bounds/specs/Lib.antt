pub mod Passes
pub mod Flags
