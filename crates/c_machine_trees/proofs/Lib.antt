pub mod For
pub mod Shapes
pub mod SharedExprTrees
pub mod SharedStmtTrees
pub mod SharedTrees
mod Shared
