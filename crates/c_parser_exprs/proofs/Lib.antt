pub mod Ranks
pub mod Shorter
