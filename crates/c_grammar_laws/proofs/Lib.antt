pub mod ReadPlaces
pub mod Tidy
pub mod ExprTidy
pub mod FileTidy
pub mod Order
