use Rattle.std.proofs.Common.{◌+◌, ◌*◌}
use Rattle.c_syntax.specs.TypedExpr.{texpr_tree, tlvalue_tree}
use Rattle.c_syntax.specs.Sizes.{texpr_size, tlvalue_size}
use Rattle.c_rules_effects.proofs.places.+places.Given as goal

abbrev pub decreases-place_of : goal.decreases-place_of
decreases-place_of l = 3 * tlvalue_size (tlvalue_tree l.place.now)

abbrev pub decreases-element_of : goal.decreases-element_of
decreases-element_of l = 3 * texpr_size (texpr_tree l.pointer.now) + 2

abbrev pub decreases-sum_of : goal.decreases-sum_of
decreases-sum_of l = 3 * texpr_size (texpr_tree l.left.now) + 2

abbrev pub decreases-array_of : goal.decreases-array_of
decreases-array_of l = 3 * texpr_size (texpr_tree l.pointer.now) + 1
