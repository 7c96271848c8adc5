use Rattle.mem_cell_bytes.specs.Stores.{AreBytesLeft}
use Rattle.mem_cell_grid.proofs.lefts.stretches_left.Given as goal

abbrev pub invariant-loop-f : goal.invariant-loop-f
invariant-loop-f l = AreBytesLeft l.stretches l.at l.count l.left.items
