pub mod Bound
pub mod Points
pub mod Rel
pub mod Entry
pub mod Cells
