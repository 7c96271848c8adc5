use Rattle.std.proofs.Common.{◌≡◌, ◌+◌}
use Rattle.bound_matrix.specs.Bound.{bound_at}
use Rattle.bound_matrix.specs.Cells.{cell, RowStored}
use Rattle.bound_matrix.proofs.transfer.store_row.Given as goal

abbrev pub invariant-loop-j : goal.invariant-loop-j
invariant-loop-j g l = record { vars : l.m.vars ≡ l.fn.m.vars; so_far : RowStored l.i l.j (cell l.n l.cells) (bound_at l.fn.m) (bound_at l.m); cost : l.steps ≡ l.fn.steps + l.j }
