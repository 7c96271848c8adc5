pub mod Presumed
pub mod Starts
