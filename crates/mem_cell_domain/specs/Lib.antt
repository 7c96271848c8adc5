pub mod Lives
pub mod Heavy
pub mod Starts
