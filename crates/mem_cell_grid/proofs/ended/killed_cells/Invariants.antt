use Rattle.mem_cell_grid.specs.Endings.{AreKilled}
use Rattle.mem_cell_grid.proofs.ended.killed_cells.Given as goal

abbrev pub invariant-loop-e : goal.invariant-loop-e
invariant-loop-e l = AreKilled l.gone l.cells l.left.items
