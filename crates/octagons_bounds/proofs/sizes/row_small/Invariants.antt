use Rattle.std.proofs.Common.{◌≡◌, ℕ, ◌<◌, ◌*◌}
use Rattle.bound_matrix.specs.Bound.{bound_at}
use Rattle.octagons_bounds.specs.Flags.{IsSmallBound}
use Rattle.octagons_bounds.proofs.sizes.row_small.Given as goal

abbrev pub invariant-loop-j : goal.invariant-loop-j
invariant-loop-j l = record { end : l.j-end ≡ 2 * l.m.vars; before : (q : ℕ) → q < l.j → IsSmallBound (bound_at l.m l.i q) }
