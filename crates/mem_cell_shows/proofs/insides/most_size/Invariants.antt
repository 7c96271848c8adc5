use Rattle.std.proofs.Common.{ℕ, ◌<◌, get_or, map}
use Rattle.c_syntax.specs.Types.{object_tree}
use Rattle.mem_cell_shows.specs.Insides.{IsSmallAt}
use Rattle.mem_cell_shows.proofs.insides.most_size.Given as goal

abbrev pub invariant-loop-n : goal.invariant-loop-n
invariant-loop-n l = (k : ℕ) → k < l.n-index → IsSmallAt (map object_tree l.objects) (get_or l.names k 0) l.most
