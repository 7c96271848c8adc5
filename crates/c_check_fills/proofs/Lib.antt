pub mod Current
pub mod Members
pub mod Rows
pub mod TextItems
