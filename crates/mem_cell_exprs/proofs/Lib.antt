pub mod Options
pub mod Acts
pub mod Nodes
pub mod Moves
pub mod Made
