use Rattle.std.proofs.Common.{◌≡◌, ℕ, ◌<◌, Some, get_or}
use Rattle.cell_table.specs.Cells.{cell_at}
use Rattle.tests_layers.proofs.cells.is_only.Given as goal

abbrev pub invariant-loop-n : goal.invariant-loop-n
invariant-loop-n l = (k : ℕ) → k < l.n-index → cell_at l.cells.slots (get_or l.numbers k 0) ≡ Some l.c
