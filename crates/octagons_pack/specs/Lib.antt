pub mod Packs
pub mod Changes
