use Rattle.std.proofs.Common.{◌+◌, ◌*◌}
use Rattle.c_syntax.specs.TypedExpr.{texpr_tree, tlvalue_tree}
use Rattle.c_syntax.specs.Sizes.{texpr_size, tlvalue_size}
use Rattle.c_check_nodes.proofs.addresses.+addresses.Given as goal

abbrev pub decreases-static_address : goal.decreases-static_address
decreases-static_address l = 2 * texpr_size (texpr_tree l.e.now)

abbrev pub decreases-moved_address : goal.decreases-moved_address
decreases-moved_address l = 2 * (texpr_size (texpr_tree l.left.now) + texpr_size (texpr_tree l.right.now)) + 1

abbrev pub decreases-static_place : goal.decreases-static_place
decreases-static_place l = 2 * tlvalue_size (tlvalue_tree l.place.now)
