pub mod Packing
pub mod Seeing
pub mod Bounding
