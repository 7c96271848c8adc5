pub mod Ways
pub mod Marks
pub mod Items
pub mod Loops
pub mod Inits
pub mod Stmts
pub mod Bodies
