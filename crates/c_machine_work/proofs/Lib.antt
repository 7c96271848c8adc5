pub mod Lists
mod Evals
mod Inits
mod Marked
mod Shapes
