pub mod Forms
pub mod Counting
pub mod Left
pub mod Changed
pub mod Calls
pub mod Items
pub mod SettledLists
pub mod Tables
