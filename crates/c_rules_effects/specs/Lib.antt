pub mod Effects
pub mod Held
pub mod Joined
pub mod Meeting
pub mod Met
pub mod Places
pub mod Taken
