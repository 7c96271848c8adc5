use Rattle.mem_cell_stores.specs.Hits.{AreAmong, AreWeakCells}
use Rattle.mem_cell_stores.proofs.weakly.weak_cells.Given as goal

abbrev pub invariant-loop-e : goal.invariant-loop-e
invariant-loop-e l = AreAmong l.initial.variables.items l.variables.items × AreWeakCells l.object l.bytes l.ty l.content l.variables.items l.cells l.weak.items
