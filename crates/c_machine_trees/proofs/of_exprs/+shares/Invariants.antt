use Rattle.std.proofs.Common.{◌≡◌, ◌+◌, ◌*◌, take}
use Rattle.c_syntax.specs.TypedExpr.{texpr_tree, texprs_from, texprs_tree, tlvalue_tree}
use Rattle.c_machine_trees.specs.Expressions.{exprs_from}
use Rattle.c_syntax.specs.Sizes.{texpr_size, texprs_size, tlvalue_size}
use Rattle.c_machine_trees.proofs.of_exprs.+shares.Given as goal

abbrev pub invariant-share_exprs-loop-item : goal.invariant-share_exprs-loop-item
invariant-share_exprs-loop-item l = exprs_from l.items.items ≡ texprs_from (take l.item-index l.item-items)

abbrev pub decreases-share_expr : goal.decreases-share_expr
decreases-share_expr l = 4 * texpr_size (texpr_tree l.expr.now) + 1

abbrev pub decreases-share_use : goal.decreases-share_use
decreases-share_use l = 4 * texpr_size (texpr_tree l.expr.now)

abbrev pub decreases-share_operation : goal.decreases-share_operation
decreases-share_operation l = 4 * texpr_size (texpr_tree l.expr.now)

abbrev pub decreases-share_operations : goal.decreases-share_operations
decreases-share_operations l = 4 * texpr_size (texpr_tree l.expr.now)

abbrev pub decreases-share_assignment : goal.decreases-share_assignment
decreases-share_assignment l = 4 * texpr_size (texpr_tree l.expr.now)

abbrev pub decreases-share_place : goal.decreases-share_place
decreases-share_place l = 4 * tlvalue_size (tlvalue_tree l.place.now)

abbrev pub decreases-share_exprs : goal.decreases-share_exprs
decreases-share_exprs l = 4 * texprs_size (texprs_tree l.exprs.now)

abbrev pub decreases-shared_expr : goal.decreases-shared_expr
decreases-shared_expr l = 4 * texpr_size (texpr_tree l.expr.now) + 2

abbrev pub decreases-shared_place : goal.decreases-shared_place
decreases-shared_place l = 4 * tlvalue_size (tlvalue_tree l.place.now) + 1

abbrev pub decreases-share_conversion : goal.decreases-share_conversion
decreases-share_conversion l = 4 * texpr_size (texpr_tree l.operand.now) + 3

abbrev pub decreases-share_binary : goal.decreases-share_binary
decreases-share_binary l = 4 * (texpr_size (texpr_tree l.left.now) + texpr_size (texpr_tree l.right.now)) + 3

abbrev pub decreases-share_and : goal.decreases-share_and
decreases-share_and l = 4 * (texpr_size (texpr_tree l.left.now) + texpr_size (texpr_tree l.right.now)) + 3

abbrev pub decreases-share_or : goal.decreases-share_or
decreases-share_or l = 4 * (texpr_size (texpr_tree l.left.now) + texpr_size (texpr_tree l.right.now)) + 3

abbrev pub decreases-share_comma : goal.decreases-share_comma
decreases-share_comma l = 4 * (texpr_size (texpr_tree l.left.now) + texpr_size (texpr_tree l.right.now)) + 3

abbrev pub decreases-share_choice : goal.decreases-share_choice
decreases-share_choice l = 4 * (texpr_size (texpr_tree l.condition.now) + texpr_size (texpr_tree l.then.now) + texpr_size (texpr_tree l.otherwise.now)) + 3

abbrev pub decreases-share_call : goal.decreases-share_call
decreases-share_call l = 4 * texprs_size (texprs_tree l.args.now) + 3

abbrev pub decreases-share_value : goal.decreases-share_value
decreases-share_value l = 4 * (tlvalue_size (tlvalue_tree l.place.now) + texpr_size (texpr_tree l.value.now)) + 3

abbrev pub decreases-share_struct : goal.decreases-share_struct
decreases-share_struct l = 4 * (tlvalue_size (tlvalue_tree l.place.now) + texpr_size (texpr_tree l.source.now)) + 3

abbrev pub decreases-share_compound : goal.decreases-share_compound
decreases-share_compound l = 4 * (tlvalue_size (tlvalue_tree l.place.now) + texpr_size (texpr_tree l.value.now)) + 3

abbrev pub decreases-share_deref : goal.decreases-share_deref
decreases-share_deref l = 4 * texpr_size (texpr_tree l.pointer.now) + 3

abbrev pub decreases-share_member : goal.decreases-share_member
decreases-share_member l = 4 * tlvalue_size (tlvalue_tree l.place.now) + 3
