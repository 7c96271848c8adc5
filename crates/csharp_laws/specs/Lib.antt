pub mod LeftAlone
pub mod Separate
pub mod Enough
pub mod Inputs
pub mod Runs
pub mod Ranks
