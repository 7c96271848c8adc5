pub mod Lefts
pub mod Meetings
pub mod Endings
