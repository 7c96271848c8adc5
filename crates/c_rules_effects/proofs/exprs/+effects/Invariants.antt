use Rattle.std.proofs.Common.{◌≡◌, ◌+◌, ◌*◌, take}
use Rattle.c_syntax.specs.TypedExpr.{texpr_tree, texprs_from, texprs_tree, tlvalue_tree}
use Rattle.c_syntax.specs.Sizes.{texpr_size, texprs_size, tlvalue_size}
use Rattle.c_rules_effects.specs.Effects.{effects_among}
use Rattle.c_rules_effects.specs.Joined.{joined}
use Rattle.c_rules_effects.proofs.exprs.+effects.Given as goal

abbrev pub invariant-add_args-loop-arg : goal.invariant-add_args-loop-arg
invariant-add_args-loop-arg l = l.effects ≡ joined l.initial.effects (effects_among l.known (texprs_from (take l.arg-index l.arg-items)))

abbrev pub decreases-add_expr : goal.decreases-add_expr
decreases-add_expr l = 6 * texpr_size (texpr_tree l.expr.now)

abbrev pub decreases-add_place : goal.decreases-add_place
decreases-add_place l = 6 * tlvalue_size (tlvalue_tree l.place.now)

abbrev pub decreases-add_read : goal.decreases-add_read
decreases-add_read l = 6 * tlvalue_size (tlvalue_tree l.place.now) + 3

abbrev pub decreases-add_step : goal.decreases-add_step
decreases-add_step l = 6 * tlvalue_size (tlvalue_tree l.place.now) + 3

abbrev pub decreases-add_both : goal.decreases-add_both
decreases-add_both l = 6 * (texpr_size (texpr_tree l.left.now) + texpr_size (texpr_tree l.right.now)) + 3

abbrev pub decreases-add_parts : goal.decreases-add_parts
decreases-add_parts l = 6 * (tlvalue_size (tlvalue_tree l.place.now) + texpr_size (texpr_tree l.value.now)) + 3

abbrev pub decreases-add_store : goal.decreases-add_store
decreases-add_store l = 6 * (tlvalue_size (tlvalue_tree l.place.now) + texpr_size (texpr_tree l.value.now)) + 4

abbrev pub decreases-add_change : goal.decreases-add_change
decreases-add_change l = 6 * (tlvalue_size (tlvalue_tree l.place.now) + texpr_size (texpr_tree l.value.now)) + 4

abbrev pub decreases-add_choice : goal.decreases-add_choice
decreases-add_choice l = 6 * (texpr_size (texpr_tree l.condition.now) + texpr_size (texpr_tree l.then.now) + texpr_size (texpr_tree l.otherwise.now)) + 4

abbrev pub decreases-add_call : goal.decreases-add_call
decreases-add_call l = 6 * texprs_size (texprs_tree l.args.now) + 3

abbrev pub decreases-add_args : goal.decreases-add_args
decreases-add_args l = 6 * texprs_size (texprs_tree l.args.now)
