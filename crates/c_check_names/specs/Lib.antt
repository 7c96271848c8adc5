pub mod Firsts
pub mod Kept
pub mod Places
pub mod Trees
pub mod Views
pub mod Worlds
