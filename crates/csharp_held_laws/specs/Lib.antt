pub mod Far
pub mod Held
