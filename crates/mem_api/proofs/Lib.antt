pub mod Owning
pub mod Anything
pub mod Statements
