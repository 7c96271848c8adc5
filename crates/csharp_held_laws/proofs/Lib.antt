pub mod Numbers
pub mod Values
pub mod Actions
pub mod Begun
pub mod Runs
