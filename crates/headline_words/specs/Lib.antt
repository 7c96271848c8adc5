pub mod Command
pub mod Parser
pub mod Told
