use Rattle.std.specs.Prelude.{ℕ, ℤ, pos, ◌<◌, ◌≤ℤ◌}
use Rattle.bound_matrix.specs.Cells.{cell}
use Rattle.bound_matrix.specs.Points.{IsUpTo}
use Rattle.bound_matrix.proofs.table.below_zero.Given as goal

abbrev pub invariant-loop-i : goal.invariant-loop-i
invariant-loop-i l = (p : ℕ) → p < l.i → (x : ℤ) → IsUpTo (cell l.n l.cells p p) x → pos 0 ≤ℤ x
