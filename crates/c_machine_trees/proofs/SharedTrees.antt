-- Every equation of the trees of what is shared, for the proofs about code that builds or opens it.
use Rattle.c_machine_trees.proofs.SharedExprTrees.{shared_expr_trees}
use Rattle.c_machine_trees.proofs.SharedStmtTrees.{shared_stmt_trees}

pub ruleset the_shared_trees = (shared_expr_trees, shared_stmt_trees)
