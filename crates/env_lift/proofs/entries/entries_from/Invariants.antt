use Rattle.std.proofs.Common.{ℕ, ◌≡◌, ◌≤◌, length}
use Rattle.env_lift.specs.Entries.{value_in, IsRising}
use Rattle.env_lift.proofs.entries.entries_from.Given as goal

abbrev pub invariant-loop-first : goal.invariant-loop-first
invariant-loop-first g l = record {
  rising : IsRising l.rest;
  same : (y : ℕ) → l.x.0 ≤ y → value_in l.rest y ≡ value_in l.entries y;
}

abbrev pub decreases-loop-first : goal.decreases-loop-first
decreases-loop-first g l = length l.rest
