use Rattle.std.proofs.Common.{◌≡◌, ◌≤◌, ◌+◌}
use Rattle.bound_matrix.specs.Bound.{bound_at, row_start}
use Rattle.bound_matrix.specs.Cells.{cell, Stored}
use Rattle.bound_matrix.proofs.transfer.store.Given as goal

abbrev pub invariant-loop-i : goal.invariant-loop-i
invariant-loop-i g l = record { vars : l.m.vars ≡ l.fn.m.vars; so_far : Stored l.i (cell l.n l.cells) (bound_at l.fn.m) (bound_at l.m); cost : l.steps ≤ l.fn.steps + row_start l.i }
