use Rattle.std.proofs.Common.{◌≡◌, take}
use Rattle.mem_cell_grid.proofs.grid.shared_all.Given as goal

abbrev pub invariant-loop-held : goal.invariant-loop-held
invariant-loop-held l = l.all.items ≡ take l.held-index l.objects
