use Rattle.std.proofs.Common.{◌≡◌, ◌<◌, ◌≤◌, ◌+◌, ℕ, length}
use Rattle.std.specs.Prelude.{false, nat_le, nat_lt, ◌&&◌, ◌||◌, slice_index_or}
use Rattle.lower_zeros.proofs.named.mark_from.Given as goal

abbrev pub invariant-loop-left : goal.invariant-loop-left
invariant-loop-left l = record {
  low : l.first ≤ l.byte;
  ends : l.byte + l.left ≡ l.first + l.count;
  many : length l.marks.items ≡ length l.initial.marks.items;
  marked : (k : ℕ) → k < length l.initial.marks.items
      → slice_index_or l.marks.items k false ≡ (nat_le l.first k && nat_lt k l.byte || slice_index_or l.initial.marks.items k false);
}

abbrev pub decreases-loop-left : goal.decreases-loop-left
decreases-loop-left l = l.left
