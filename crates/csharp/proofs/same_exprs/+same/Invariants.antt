use Rattle.std.proofs.Common.{◌+◌, ◌*◌}
use Rattle.csharp.specs.Trees.{csexpr_tree}
use Rattle.csharp.specs.Sizes.{csexpr_size}
use Rattle.csharp.proofs.same_exprs.+same.Given as goal

abbrev pub decreases-same_expr : goal.decreases-same_expr
decreases-same_expr l = 3 * csexpr_size (csexpr_tree l.a.now)

abbrev pub decreases-is_unary : goal.decreases-is_unary
decreases-is_unary l = 3 * csexpr_size (csexpr_tree l.e.now) + 1

abbrev pub decreases-is_binary : goal.decreases-is_binary
decreases-is_binary l = 3 * (csexpr_size (csexpr_tree l.e.now) + csexpr_size (csexpr_tree l.f.now)) + 1

abbrev pub decreases-is_convert : goal.decreases-is_convert
decreases-is_convert l = 3 * csexpr_size (csexpr_tree l.e.now) + 1
