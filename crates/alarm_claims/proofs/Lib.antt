pub mod Whole
pub mod Forms
pub mod Parts
pub mod Wider
