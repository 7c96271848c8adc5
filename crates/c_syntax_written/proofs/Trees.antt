-- Every equation of a view of written trees, for the proofs about code that builds or opens them.
use Rattle.c_syntax_written.proofs.WrittenTrees.{written_trees}
use Rattle.c_syntax_written.proofs.WrittenDeclTrees.{written_decl_trees}
use Rattle.c_syntax_written.proofs.WrittenFileTrees.{written_file_trees}

pub ruleset the_written_trees = (written_trees, written_decl_trees, written_file_trees)
