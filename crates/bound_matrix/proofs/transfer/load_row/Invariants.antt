use Rattle.std.proofs.Common.{◌≡◌, ◌+◌}
use Rattle.bound_matrix.specs.Bound.{bound_at}
use Rattle.bound_matrix.proofs.Storing.{LoadRow}
use Rattle.bound_matrix.proofs.transfer.load_row.Given as goal

abbrev pub invariant-loop-j : goal.invariant-loop-j
invariant-loop-j g l = record { so_far : LoadRow l.n l.i l.j (bound_at l.m) l.fn.cells l.cells; cost : l.steps ≡ l.fn.steps + l.j }
