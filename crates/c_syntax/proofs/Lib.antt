pub mod TypeTrees
pub mod TypedExprTrees
pub mod TypedStmtTrees
pub mod Trees
pub mod Copies
pub mod Sizes
