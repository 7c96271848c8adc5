pub mod Admitted
pub mod Analyzed
pub mod ExactFor
pub mod Forms
pub mod Wider
