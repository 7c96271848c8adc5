pub mod OneNumber
