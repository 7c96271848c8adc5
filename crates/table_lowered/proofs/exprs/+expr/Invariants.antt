use Rattle.csharp.specs.Trees.{csexpr_tree}
use Rattle.csharp.specs.Sizes.{csexpr_size}
use Rattle.table_lowered.proofs.exprs.+expr.Given as goal

abbrev pub decreases-expr : goal.decreases-expr
decreases-expr l = csexpr_size (csexpr_tree l.e.now)
