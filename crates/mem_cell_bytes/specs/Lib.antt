pub mod Contents
pub mod Cells
pub mod Stands
pub mod Joins
pub mod Stores
pub mod Ends
pub mod Fills
pub mod Weights
