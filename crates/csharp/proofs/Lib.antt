pub mod CodeTrees
mod Samples
pub mod Kept
mod Variants
mod Copied
pub mod Equal
