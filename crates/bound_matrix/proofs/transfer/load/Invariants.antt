use Rattle.std.proofs.Common.{◌≡◌, ◌+◌, ◌*◌}
use Rattle.bound_matrix.specs.Bound.{bound_at}
use Rattle.bound_matrix.proofs.Storing.{LoadRows}
use Rattle.bound_matrix.proofs.transfer.load.Given as goal

abbrev pub invariant-loop-i : goal.invariant-loop-i
invariant-loop-i g l = record { so_far : LoadRows l.n l.i (bound_at l.m) l.cells; cost : l.steps ≡ l.fn.steps + l.i * l.n }
