pub mod Reading
pub mod Tightness
pub mod Soundness
pub mod Steps
pub mod SeenBounds
