-- Every equation of a view of types and typed trees, for the proofs about code that builds or opens them.
use Rattle.c_syntax.proofs.TypeTrees.{type_trees}
use Rattle.c_syntax.proofs.TypedExprTrees.{typed_expr_trees}
use Rattle.c_syntax.proofs.TypedStmtTrees.{typed_stmt_trees}

pub ruleset the_trees = (type_trees, typed_expr_trees, typed_stmt_trees)
