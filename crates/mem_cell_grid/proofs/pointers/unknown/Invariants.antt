use Rattle.std.proofs.Common.{◌≡◌, replicate, None}
use Rattle.mem_cell_grid.proofs.pointers.unknown.Given as goal

abbrev pub invariant-loop-d : goal.invariant-loop-d
invariant-loop-d l = l.all.items ≡ replicate l._d None
