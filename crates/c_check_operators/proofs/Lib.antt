pub mod Equations
pub mod Numbers
pub mod Same
