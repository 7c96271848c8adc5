use Rattle.std.proofs.Common.{◌+◌, ◌*◌}
use Rattle.csharp.specs.Trees.{csexpr_tree}
use Rattle.csharp.specs.Sizes.{csexpr_size}
use Rattle.mem_places.proofs.offsets.+adds.Given as goal

abbrev pub decreases-add_steps : goal.decreases-add_steps
decreases-add_steps l = 2 * csexpr_size (csexpr_tree l.e.now)

abbrev pub decreases-add_moved : goal.decreases-add_moved
decreases-add_moved l = 2 * csexpr_size (csexpr_tree l.base.now) + 1
