use Rattle.std.proofs.Common.{◌≡◌, take}
use Rattle.mem_cell_grid.specs.Endings.{cleared}
use Rattle.mem_cell_grid.proofs.ended.clear.Given as goal

abbrev pub invariant-loop-x : goal.invariant-loop-x
invariant-loop-x l = l.objects ≡ cleared l.initial.objects (take l.x-index l.gone)
