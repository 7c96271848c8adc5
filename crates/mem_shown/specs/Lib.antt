pub mod Decisions
pub mod Offsets
pub mod Pairs
pub mod Spans
pub mod Sets
pub mod Hulls
