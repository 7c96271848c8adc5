use Rattle.std.proofs.Common.{◌≡◌, replicate}
use Rattle.mem_cell_bytes.specs.Contents.{nothing}
use Rattle.mem_cell_grid.proofs.grid.nothings.Given as goal

abbrev pub invariant-loop-x : goal.invariant-loop-x
invariant-loop-x l = l.all.items ≡ replicate l._x nothing
