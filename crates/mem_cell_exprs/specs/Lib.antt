pub mod Exprs
pub mod Known
