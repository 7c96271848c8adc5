use Rattle.std.proofs.Common.{◌≡◌, map, vec_len}
use Rattle.c_typing.specs.File.{with_object_meaning}
use Rattle.c_check_names.specs.Trees.{binding_tree}
use Rattle.c_check_names.specs.Worlds.{world_of}
use Rattle.c_check_functions.specs.Views.{with_names}
use Rattle.c_check_functions.proofs.Left.{names_left}
use Rattle.c_check_functions.proofs.scopes.add_names.Given as goal

abbrev pub invariant-each : goal.invariant-each
invariant-each l =
    names_left (world_of l.world) l.first l.left.items ≡ with_names (world_of l.fn.world) (map (with_object_meaning l.first) (map binding_tree l.fn.names.items))

abbrev pub decreases-each : goal.decreases-each
decreases-each l = vec_len l.left
