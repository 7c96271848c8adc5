pub mod Ranges
pub mod Outcomes
pub mod Settled
pub mod Accesses
pub mod Judging
pub mod Tried
