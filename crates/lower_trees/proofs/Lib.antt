pub mod ZeroBytes
pub mod NamedPlaces
pub mod ZerosTried
pub mod Samples
