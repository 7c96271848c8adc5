pub mod Moving
pub mod Shifting
pub mod Showing
pub mod Balance
pub mod Dividing
