pub mod States
pub mod Lowerings
