use Rattle.std.proofs.Common.{◌+◌, ◌*◌}
use Rattle.csharp.specs.Trees.{csexpr_tree}
use Rattle.csharp.specs.Sizes.{csexpr_size}
use Rattle.csharp.proofs.copied_exprs.+copies.Given as goal

abbrev pub decreases-copy_expr : goal.decreases-copy_expr
decreases-copy_expr l = 4 * csexpr_size (csexpr_tree l.expr.now)

abbrev pub decreases-boxed : goal.decreases-boxed
decreases-boxed l = 4 * csexpr_size (csexpr_tree l.expr.now) + 1

abbrev pub decreases-copy_unary : goal.decreases-copy_unary
decreases-copy_unary l = 4 * csexpr_size (csexpr_tree l.operand.now) + 2

abbrev pub decreases-copy_binary : goal.decreases-copy_binary
decreases-copy_binary l = 4 * (csexpr_size (csexpr_tree l.left.now) + csexpr_size (csexpr_tree l.right.now)) + 2

abbrev pub decreases-copy_conversion : goal.decreases-copy_conversion
decreases-copy_conversion l = 4 * csexpr_size (csexpr_tree l.operand.now) + 2
