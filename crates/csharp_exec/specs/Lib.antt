pub mod Told
pub mod Shapes
pub mod Stages
pub mod Meets
pub mod Beginning
