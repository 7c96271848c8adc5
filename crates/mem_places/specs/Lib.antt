pub mod Places
pub mod ShownPlaces
pub mod Totals
pub mod Sides
pub mod Units
