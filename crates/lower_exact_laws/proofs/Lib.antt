pub mod Defaults
pub mod Sizes
pub mod Carried
