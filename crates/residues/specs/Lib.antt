pub mod Classes
pub mod Class
pub mod Inward
pub mod Pair
pub mod Laws
pub mod LowBits
pub mod ClassBounds
