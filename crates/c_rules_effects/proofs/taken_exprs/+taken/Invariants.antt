use Rattle.std.proofs.Common.{◌≡◌, ◌+◌, ◌*◌, ◌++◌, take}
use Rattle.c_syntax.specs.TypedExpr.{texpr_tree, texprs_from, texprs_tree, tlvalue_tree}
use Rattle.c_syntax.specs.Sizes.{texpr_size, texprs_size, tlvalue_size}
use Rattle.c_rules_effects.specs.Taken.{taken_among}
use Rattle.c_rules_effects.proofs.taken_exprs.+taken.Given as goal

abbrev pub decreases-add_expr : goal.decreases-add_expr
decreases-add_expr l = 5 * texpr_size (texpr_tree l.expr.now)

abbrev pub decreases-add_place : goal.decreases-add_place
decreases-add_place l = 5 * tlvalue_size (tlvalue_tree l.place.now)

abbrev pub decreases-add_both : goal.decreases-add_both
decreases-add_both l = 5 * (texpr_size (texpr_tree l.left.now) + texpr_size (texpr_tree l.right.now)) + 3

abbrev pub decreases-add_stored : goal.decreases-add_stored
decreases-add_stored l = 5 * (tlvalue_size (tlvalue_tree l.place.now) + texpr_size (texpr_tree l.value.now)) + 3

abbrev pub decreases-add_choice : goal.decreases-add_choice
decreases-add_choice l = 5 * (texpr_size (texpr_tree l.condition.now) + texpr_size (texpr_tree l.then.now) + texpr_size (texpr_tree l.otherwise.now)) + 4

abbrev pub decreases-add_indexed : goal.decreases-add_indexed
decreases-add_indexed l = 5 * texpr_size (texpr_tree l.sum.now) + 4

abbrev pub decreases-add_sum : goal.decreases-add_sum
decreases-add_sum l = 5 * (texpr_size (texpr_tree l.left.now) + texpr_size (texpr_tree l.right.now)) + 5

abbrev pub decreases-add_element : goal.decreases-add_element
decreases-add_element l = 5 * (texpr_size (texpr_tree l.array.now) + texpr_size (texpr_tree l.index.now)) + 3

abbrev pub decreases-add_array : goal.decreases-add_array
decreases-add_array l = 5 * texpr_size (texpr_tree l.array.now) + 2

abbrev pub decreases-add_address : goal.decreases-add_address
decreases-add_address l = 5 * tlvalue_size (tlvalue_tree l.place.now) + 3

abbrev pub decreases-add_args : goal.decreases-add_args
decreases-add_args l = 5 * texprs_size (texprs_tree l.args.now)

abbrev pub invariant-add_args-loop-arg : goal.invariant-add_args-loop-arg
invariant-add_args-loop-arg l = l.taken.items ≡ l.initial.taken.items ++ taken_among (texprs_from (take l.arg-index l.arg-items))
