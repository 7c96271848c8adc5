pub mod Written
pub mod WrittenDecl
pub mod WrittenFile
pub mod WrittenParts
pub mod Integer
pub mod Constant
pub mod Sizes
