pub mod Elements
pub mod Levels
pub mod Named
