pub mod Sources
pub mod Drawn
pub mod Seen
