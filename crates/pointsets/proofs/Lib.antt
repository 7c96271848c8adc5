pub mod Names
pub mod Sets
pub mod Bases
pub mod Weights
