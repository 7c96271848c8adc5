pub mod Answers
pub mod Belongs
pub mod Reading
pub mod Passing
pub mod Unheld
