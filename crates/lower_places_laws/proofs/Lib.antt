pub mod Aligned
pub mod Fixed
