use Rattle.std.proofs.Common.{◌≡◌, ◌+◌, ◌*◌}
use Rattle.std.specs.Prelude.{drop}
use Rattle.c_syntax.specs.Program.{tprogram_tree}
use Rattle.c_syntax.specs.TypedExpr.{texpr_tree, texprs_from, texprs_tree, tlvalue_tree}
use Rattle.c_syntax.specs.Sizes.{texpr_size, texprs_size, tlvalue_size}
use Rattle.lower_trees.specs.LowerExpr.{lower_args}
use Rattle.lower_nodes.specs.Parts.{with_rest}
use Rattle.lower_expr.proofs.exprs.+lowers.Given as goal

-- what was gathered and what is left make the whole
abbrev pub invariant-lower_arguments-loop-item : goal.invariant-lower_arguments-loop-item
invariant-lower_arguments-loop-item l =
    with_rest l.gathered (lower_args (tprogram_tree l.program) l.gathered.next (texprs_from (drop l.item-index l.item-items)))
    ≡ lower_args (tprogram_tree l.program) l.d (texprs_from l.item-items)

abbrev pub decreases-lower_expr : goal.decreases-lower_expr
decreases-lower_expr l = 8 * texpr_size (texpr_tree l.e.now) + 1

abbrev pub decreases-lower_place : goal.decreases-lower_place
decreases-lower_place l = 8 * tlvalue_size (tlvalue_tree l.place.now) + 1

abbrev pub decreases-lower_test : goal.decreases-lower_test
decreases-lower_test l = 8 * texpr_size (texpr_tree l.e.now) + 3

abbrev pub decreases-test_value : goal.decreases-test_value
decreases-test_value l = 8 * texpr_size (texpr_tree l.e.now) + 2

abbrev pub decreases-straight : goal.decreases-straight
decreases-straight l = 8 * (texpr_size (texpr_tree l.left.now) + texpr_size (texpr_tree l.right.now)) + 4

abbrev pub decreases-crossing : goal.decreases-crossing
decreases-crossing l = 8 * (texpr_size (texpr_tree l.left.now) + texpr_size (texpr_tree l.right.now)) + 4

abbrev pub decreases-lower_source : goal.decreases-lower_source
decreases-lower_source l = 8 * texpr_size (texpr_tree l.e.now) + 2

abbrev pub decreases-lower_used : goal.decreases-lower_used
decreases-lower_used l = 8 * texpr_size (texpr_tree l.e.now) + 3

abbrev pub decreases-lower_arguments : goal.decreases-lower_arguments
decreases-lower_arguments l = 8 * texprs_size (texprs_tree l.args.now) + 1

abbrev pub decreases-load : goal.decreases-load
decreases-load l = 8 * tlvalue_size (tlvalue_tree l.place.now) + 2

abbrev pub decreases-unary : goal.decreases-unary
decreases-unary l = 8 * texpr_size (texpr_tree l.operand.now) + 2

abbrev pub decreases-binary : goal.decreases-binary
decreases-binary l = 8 * (texpr_size (texpr_tree l.left.now) + texpr_size (texpr_tree l.right.now)) + 2

abbrev pub decreases-convert : goal.decreases-convert
decreases-convert l = 8 * texpr_size (texpr_tree l.operand.now) + 2

abbrev pub decreases-assign : goal.decreases-assign
decreases-assign l = 8 * (tlvalue_size (tlvalue_tree l.place.now) + texpr_size (texpr_tree l.value.now)) + 2

abbrev pub decreases-assign_struct : goal.decreases-assign_struct
decreases-assign_struct l = 8 * (tlvalue_size (tlvalue_tree l.place.now) + texpr_size (texpr_tree l.source.now)) + 3

abbrev pub decreases-compound : goal.decreases-compound
decreases-compound l = 8 * (tlvalue_size (tlvalue_tree l.place.now) + texpr_size (texpr_tree l.value.now)) + 2

abbrev pub decreases-step : goal.decreases-step
decreases-step l = 8 * tlvalue_size (tlvalue_tree l.place.now) + 2

abbrev pub decreases-and_bit : goal.decreases-and_bit
decreases-and_bit l = 8 * (texpr_size (texpr_tree l.left.now) + texpr_size (texpr_tree l.right.now)) + 5

abbrev pub decreases-or_bit : goal.decreases-or_bit
decreases-or_bit l = 8 * (texpr_size (texpr_tree l.left.now) + texpr_size (texpr_tree l.right.now)) + 5

abbrev pub decreases-cond : goal.decreases-cond
decreases-cond l = 8 * (texpr_size (texpr_tree l.then.now) + texpr_size (texpr_tree l.otherwise.now)) + 4

abbrev pub decreases-comma : goal.decreases-comma
decreases-comma l = 8 * (texpr_size (texpr_tree l.left.now) + texpr_size (texpr_tree l.right.now)) + 4

abbrev pub decreases-call : goal.decreases-call
decreases-call l = 8 * texprs_size (texprs_tree l.args.now) + 2

abbrev pub decreases-assume : goal.decreases-assume
decreases-assume l = 8 * texpr_size (texpr_tree l.operand.now) + 4

abbrev pub decreases-assert : goal.decreases-assert
decreases-assert l = 8 * texpr_size (texpr_tree l.operand.now) + 2

abbrev pub decreases-assigned_source : goal.decreases-assigned_source
decreases-assigned_source l = 8 * (tlvalue_size (tlvalue_tree l.place.now) + texpr_size (texpr_tree l.source.now)) + 4
