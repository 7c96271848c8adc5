pub mod Carried
pub mod Exact
pub mod Inputs
pub mod Meets
