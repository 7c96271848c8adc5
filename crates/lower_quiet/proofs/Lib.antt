pub mod Puts
pub mod Exprs
pub mod Stmts
pub mod Callees
pub mod Stays
