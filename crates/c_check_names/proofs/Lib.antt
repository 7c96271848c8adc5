pub mod Become
pub mod Cuts
pub mod Firsts
pub mod Found
pub mod Indexes
pub mod Members
pub mod Places
pub mod Steps
