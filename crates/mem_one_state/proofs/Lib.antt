pub mod Inputs
pub mod Moves
mod Held
mod Findings
mod Numbers
mod Told
mod Listing
