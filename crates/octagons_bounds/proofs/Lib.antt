pub mod Raising
pub mod Widened
pub mod Closing
