use Rattle.std.proofs.Common.{◌≡◌, length, map}
use Rattle.c_typing.specs.Declarators as declarators
use Rattle.c_check_names.specs.Trees.{form_tree}
use Rattle.c_check_names.specs.Worlds.{world_of}
use Rattle.c_check_declarators.specs.Views.{IsSizeTold, step_tree}
use Rattle.c_check_declarators.proofs.laying.laid.Given as goal

abbrev pub invariant-inward : goal.invariant-inward
invariant-inward l =
    (declarators.laid (world_of l.world) l.pos (map step_tree l.steps) (form_tree l.fn.base) ≡ declarators.laid (world_of l.world) l.pos (map step_tree l.left) (form_tree l.laying.form))
    × IsSizeTold (world_of l.world).structs (form_tree l.laying.form) l.laying.size

abbrev pub decreases-inward : goal.decreases-inward
decreases-inward l = length l.left
