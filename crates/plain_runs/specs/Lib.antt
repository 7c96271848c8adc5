pub mod Numbers
pub mod States
pub mod Changes
pub mod Checks
pub mod Runs
pub mod Samples
