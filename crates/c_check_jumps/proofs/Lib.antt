pub mod Bare
pub mod Finding
pub mod LabelForms
pub mod Words
