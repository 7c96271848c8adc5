pub mod Parts
pub mod Exprs
pub mod Stmts
pub mod Found
pub mod Whole
