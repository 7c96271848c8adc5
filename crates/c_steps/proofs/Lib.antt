pub mod Last
mod Samples
