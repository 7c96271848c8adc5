pub mod Joins
pub mod Keys
pub mod Named
pub mod Names
pub mod Rows
