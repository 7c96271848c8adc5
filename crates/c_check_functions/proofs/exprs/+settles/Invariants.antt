use Rattle.std.proofs.Common.{◌≡◌, ◌+◌, ◌*◌, map}
use Rattle.c_syntax.specs.Types.{object_tree}
use Rattle.c_syntax.specs.TypedExpr.{texpr_tree, texprs_tree, tlvalue_tree}
use Rattle.c_syntax.specs.Sizes.{texpr_size, texprs_size, tlvalue_size}
use Rattle.c_typing.specs.Settled.{settled_expr}
use Rattle.c_check_functions.proofs.SettledLists.{settled_to}
use Rattle.c_check_functions.proofs.exprs.+settles.Given as goal

abbrev pub invariant-settle_exprs-loop-item : goal.invariant-settle_exprs-loop-item
invariant-settle_exprs-loop-item l = map texpr_tree l.item-items ≡ settled_to (settled_expr (map object_tree l.objects)) l.item-index (map texpr_tree l.initial.item-items)

abbrev pub decreases-settle_expr : goal.decreases-settle_expr
decreases-settle_expr l = 3 * texpr_size (texpr_tree l.e.now) + 1

abbrev pub decreases-settle_place : goal.decreases-settle_place
decreases-settle_place l = 3 * tlvalue_size (tlvalue_tree l.place.now) + 1

abbrev pub decreases-settle_exprs : goal.decreases-settle_exprs
decreases-settle_exprs l = 3 * texprs_size (texprs_tree l.list.now)

abbrev pub decreases-settle_two : goal.decreases-settle_two
decreases-settle_two l = 3 * (texpr_size (texpr_tree l.left.now) + texpr_size (texpr_tree l.right.now)) + 2

abbrev pub decreases-settle_store : goal.decreases-settle_store
decreases-settle_store l = 3 * (tlvalue_size (tlvalue_tree l.place.now) + texpr_size (texpr_tree l.value.now)) + 2
