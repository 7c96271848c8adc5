pub mod Given
pub mod Showing
pub mod Named
pub mod Likeness
pub mod FactsOf
pub mod Abstract
pub mod Owned
