use Rattle.std.proofs.Common.{◌≡◌, take}
use Rattle.mem_cell_grid.specs.Endings.{ended_pointers}
use Rattle.mem_cell_grid.proofs.pointers.killed_all.Given as goal

abbrev pub invariant-loop-set : goal.invariant-loop-set
invariant-loop-set l = l.all.items ≡ ended_pointers l.gone (take l.set-index l.sets)
