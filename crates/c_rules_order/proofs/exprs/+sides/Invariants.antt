use Rattle.std.proofs.Common.{◌≡◌, ◌+◌, ◌*◌, take}
use Rattle.c_syntax.specs.TypedExpr.{texpr_tree, texprs_from, texprs_tree, tlvalue_tree}
use Rattle.c_syntax.specs.Sizes.{texpr_size, texprs_size, tlvalue_size}
use Rattle.c_rules_order.specs.Firsts.{or_first}
use Rattle.c_rules_order.specs.Sides.{compared_among, sides_of}
use Rattle.c_rules_order.proofs.exprs.+sides.Given as goal

abbrev pub invariant-walk_args-loop-arg : goal.invariant-walk_args-loop-arg
invariant-walk_args-loop-arg l = record {
  sides : l.sides.items ≡ sides_of (texprs_from (take l.arg-index l.arg-items));
  found : l.found ≡ or_first l.known l.initial.found (compared_among (texprs_from (take l.arg-index l.arg-items)));
}

abbrev pub decreases-walk_expr : goal.decreases-walk_expr
decreases-walk_expr l = 5 * texpr_size (texpr_tree l.expr.now)

abbrev pub decreases-walk_place : goal.decreases-walk_place
decreases-walk_place l = 5 * tlvalue_size (tlvalue_tree l.place.now)

abbrev pub decreases-walk_read : goal.decreases-walk_read
decreases-walk_read l = 5 * tlvalue_size (tlvalue_tree l.place.now) + 3

abbrev pub decreases-walk_step : goal.decreases-walk_step
decreases-walk_step l = 5 * tlvalue_size (tlvalue_tree l.place.now) + 3

abbrev pub decreases-walk_both : goal.decreases-walk_both
decreases-walk_both l = 5 * (texpr_size (texpr_tree l.left.now) + texpr_size (texpr_tree l.right.now)) + 3

abbrev pub decreases-walk_operands : goal.decreases-walk_operands
decreases-walk_operands l = 5 * (texpr_size (texpr_tree l.left.now) + texpr_size (texpr_tree l.right.now)) + 3

abbrev pub decreases-walk_store : goal.decreases-walk_store
decreases-walk_store l = 5 * (tlvalue_size (tlvalue_tree l.place.now) + texpr_size (texpr_tree l.value.now)) + 3

abbrev pub decreases-walk_change : goal.decreases-walk_change
decreases-walk_change l = 5 * (tlvalue_size (tlvalue_tree l.place.now) + texpr_size (texpr_tree l.value.now)) + 3

abbrev pub decreases-walk_choice : goal.decreases-walk_choice
decreases-walk_choice l = 5 * (texpr_size (texpr_tree l.condition.now) + texpr_size (texpr_tree l.then.now) + texpr_size (texpr_tree l.otherwise.now)) + 4

abbrev pub decreases-walk_call : goal.decreases-walk_call
decreases-walk_call l = 5 * texprs_size (texprs_tree l.args.now) + 3

abbrev pub decreases-walk_args : goal.decreases-walk_args
decreases-walk_args l = 5 * texprs_size (texprs_tree l.args.now)

abbrev pub decreases-add_expr : goal.decreases-add_expr
decreases-add_expr l = 5 * texpr_size (texpr_tree l.expr.now) + 1

abbrev pub decreases-add_operand : goal.decreases-add_operand
decreases-add_operand l = 5 * texpr_size (texpr_tree l.operand.now) + 1

abbrev pub decreases-add_stored : goal.decreases-add_stored
decreases-add_stored l = 5 * texpr_size (texpr_tree l.value.now) + 1

abbrev pub decreases-add_changed : goal.decreases-add_changed
decreases-add_changed l = 5 * texpr_size (texpr_tree l.value.now) + 1
