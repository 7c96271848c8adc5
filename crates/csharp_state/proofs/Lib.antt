mod Exactly
pub mod Belonging
mod Standing
mod Arguments
mod Spots
