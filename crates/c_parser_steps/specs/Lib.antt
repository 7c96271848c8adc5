pub mod Views
pub mod Kinds
pub mod Answers
pub mod SameNames
