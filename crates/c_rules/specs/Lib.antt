pub mod Earliest
pub mod Outcomes
pub mod Rules
pub mod Sequenced
