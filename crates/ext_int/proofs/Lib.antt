pub mod Ends
pub mod Corners
pub mod Products
pub mod Quotients
