use Rattle.std.proofs.Common.{◌≡◌, take}
use Rattle.mem_cell_grid.proofs.pointers.shared_all.Given as goal

abbrev pub invariant-loop-set : goal.invariant-loop-set
invariant-loop-set l = l.all.items ≡ take l.set-index l.sets
