pub mod Entering
pub mod Called
pub mod Calls
