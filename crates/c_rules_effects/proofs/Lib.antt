pub mod Forms
pub mod Joins
mod Marks
mod Paths
pub mod PlaceForms
mod Sets
pub mod TakenForms
pub mod Tests
