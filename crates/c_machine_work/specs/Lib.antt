pub mod Marks
pub mod Shapes
pub mod Views
pub mod Works
