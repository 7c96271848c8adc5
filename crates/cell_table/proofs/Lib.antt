pub mod Slots
pub mod Steps
pub mod Copies
pub mod Ranges
pub mod Splits
pub mod Overlaps
pub mod Bytes
