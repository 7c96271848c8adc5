pub mod NodePlaces
pub mod PlaceLaws
