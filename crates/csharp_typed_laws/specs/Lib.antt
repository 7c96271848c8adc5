pub mod TypedStates
pub mod Kept
pub mod Counts
pub mod Jumps
