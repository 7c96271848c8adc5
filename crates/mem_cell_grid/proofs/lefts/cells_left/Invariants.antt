use Rattle.mem_cell_bytes.specs.Stores.{AreLeft}
use Rattle.mem_cell_grid.proofs.lefts.cells_left.Given as goal

abbrev pub invariant-loop-e : goal.invariant-loop-e
invariant-loop-e l = AreLeft l.cells l.at l.count l.left.items
