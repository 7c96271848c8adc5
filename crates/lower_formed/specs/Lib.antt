pub mod Right
pub mod Every
pub mod Laws
