use Rattle.std.proofs.Common.{◌≡◌, ◌≤◌, ◌-◌, ℕ, length}
use Rattle.std.specs.Prelude.{false, slice_index_or}
use Rattle.lower_zeros.proofs.named.blank.Given as goal

abbrev pub invariant-loop-marks : goal.invariant-loop-marks
invariant-loop-marks l = record {
  many : length l.marks.items ≤ l.size;
  none : (k : ℕ) → slice_index_or l.marks.items k false ≡ false;
}

abbrev pub decreases-loop-marks : goal.decreases-loop-marks
decreases-loop-marks l = l.size - length l.marks.items
