mod Closing
pub mod FirstFound
pub mod Forms
mod Gathering
pub mod GraphCalls
mod Sidewise
mod Together
