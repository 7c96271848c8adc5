use Rattle.std.proofs.Common.{◌≤◌}
use Rattle.mem_cell_grid.proofs.lefts.count_before.Given as goal

abbrev pub invariant-loop-e : goal.invariant-loop-e
invariant-loop-e l = l.count ≤ l.e-index
