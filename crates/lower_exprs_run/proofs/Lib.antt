pub mod Operations
pub mod Held
pub mod Ands
pub mod Modified
pub mod Simple
pub mod Composed
pub mod Chosen
pub mod Sims
