pub mod Views
pub mod NamedViews
pub mod CallViews
