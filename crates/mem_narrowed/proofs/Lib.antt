pub mod Narrowing
pub mod Tests
