pub mod Changes
pub mod Hits
