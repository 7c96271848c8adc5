pub mod Changes
pub mod Laws
pub mod Entries
pub mod Evaluation
pub mod Passes
pub mod States
