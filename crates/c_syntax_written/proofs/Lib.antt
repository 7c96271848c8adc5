pub mod WrittenTrees
pub mod WrittenDeclTrees
pub mod WrittenFileTrees
pub mod Trees
pub mod Sizes
