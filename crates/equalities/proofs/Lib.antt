pub mod Comparisons
pub mod Inverses
pub mod Lemmas
