use Rattle.std.proofs.Common.{◌≡◌, ℕ, ◌<◌, ◌*◌}
use Rattle.bound_matrix.specs.Bound.{bound_at}
use Rattle.octagons_bounds.specs.Flags.{IsSmallBound}
use Rattle.octagons_bounds.proofs.sizes.all_small.Given as goal

abbrev pub invariant-loop-i : goal.invariant-loop-i
invariant-loop-i l = record { end : l.i-end ≡ 2 * l.m.vars; before : (p q : ℕ) → p < l.i → q < 2 * l.m.vars → IsSmallBound (bound_at l.m p q) }
