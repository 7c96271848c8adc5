pub mod Lists
pub mod Cutting
pub mod Endings
pub mod Meetings
