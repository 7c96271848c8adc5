pub mod Distances
pub mod Views
