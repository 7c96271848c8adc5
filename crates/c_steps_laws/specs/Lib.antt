pub mod Wants
pub mod Surroundings
pub mod Takes
pub mod Opens
pub mod Fits
pub mod Shapes
pub mod Needs
pub mod Laws
