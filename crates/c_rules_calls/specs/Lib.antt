pub mod Depths
pub mod Gotos
pub mod Graph
pub mod Inlined
pub mod Labels
pub mod Placed
pub mod Search
pub mod Undefined
