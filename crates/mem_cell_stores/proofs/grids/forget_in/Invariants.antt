use Rattle.std.proofs.Common.{take}
use Rattle.mem_cell_stores.specs.Changes.{AreForgotten}
use Rattle.mem_cell_stores.proofs.grids.forget_in.Given as goal

abbrev pub invariant-loop-object : goal.invariant-loop-object
invariant-loop-object l = AreForgotten (take l.object-index l.objects) l.at l.count l.initial.grid l.grid
