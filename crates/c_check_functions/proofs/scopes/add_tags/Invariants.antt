use Rattle.std.proofs.Common.{◌≡◌, map, vec_len}
use Rattle.c_check_names.specs.Trees.{tag_tree}
use Rattle.c_check_names.specs.Worlds.{world_of}
use Rattle.c_check_functions.specs.Views.{with_tags}
use Rattle.c_check_functions.proofs.Left.{tags_left}
use Rattle.c_check_functions.proofs.scopes.add_tags.Given as goal

abbrev pub invariant-each : goal.invariant-each
invariant-each l = tags_left (world_of l.world) l.left.items ≡ with_tags (world_of l.fn.world) (map tag_tree l.fn.tags.items)

abbrev pub decreases-each : goal.decreases-each
decreases-each l = vec_len l.left
