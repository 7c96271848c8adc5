pub mod Lines
pub mod Alone
