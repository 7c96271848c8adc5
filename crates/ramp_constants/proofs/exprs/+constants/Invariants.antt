use Rattle.std.proofs.Common.{◌≡◌, ◌+◌, ◌*◌, ◌++◌, take}
use Rattle.c_syntax.specs.TypedExpr.{texpr_tree, texprs_from, texprs_tree, tlvalue_tree}
use Rattle.c_syntax.specs.Sizes.{texpr_size, texprs_size, tlvalue_size}
use Rattle.ramp_constants.specs.Constants.{constants_among}
use Rattle.ramp_constants.proofs.exprs.+constants.Given as goal

abbrev pub decreases-add_expr : goal.decreases-add_expr
decreases-add_expr l = 5 * texpr_size (texpr_tree l.expr.now)

abbrev pub decreases-add_place : goal.decreases-add_place
decreases-add_place l = 5 * tlvalue_size (tlvalue_tree l.place.now)

abbrev pub decreases-add_both : goal.decreases-add_both
decreases-add_both l = 5 * (texpr_size (texpr_tree l.left.now) + texpr_size (texpr_tree l.right.now)) + 3

abbrev pub decreases-add_stored : goal.decreases-add_stored
decreases-add_stored l = 5 * (tlvalue_size (tlvalue_tree l.place.now) + texpr_size (texpr_tree l.value.now)) + 3

abbrev pub decreases-add_choice : goal.decreases-add_choice
decreases-add_choice l = 5 * (texpr_size (texpr_tree l.condition.now) + texpr_size (texpr_tree l.then.now) + texpr_size (texpr_tree l.otherwise.now)) + 4

abbrev pub decreases-add_args : goal.decreases-add_args
decreases-add_args l = 5 * texprs_size (texprs_tree l.args.now)

abbrev pub invariant-add_args-loop-arg : goal.invariant-add_args-loop-arg
invariant-add_args-loop-arg l = l.constants.items ≡ l.initial.constants.items ++ constants_among (texprs_from (take l.arg-index l.arg-items))
