pub mod Links
pub mod Hearing
