pub mod Opening
pub mod Writing
pub mod Statics
pub mod Kept
pub mod Cells
pub mod FactsIn
pub mod Lifetimes
