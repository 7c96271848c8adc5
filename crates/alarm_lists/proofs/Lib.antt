pub mod Keys
pub mod Forms
pub mod Merged
pub mod Sites
pub mod Told
