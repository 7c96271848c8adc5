pub mod Items
pub mod Contents
pub mod Modified
pub mod Needs
pub mod Rows
