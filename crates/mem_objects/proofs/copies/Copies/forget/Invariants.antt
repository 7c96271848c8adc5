use Rattle.std.proofs.Common.{◌≡◌, ℕ, ◌<◌, length, None}
use Rattle.mem_objects.specs.Copies.{copy_of}
use Rattle.mem_objects.proofs.copies.Copies.forget.Given as goal

abbrev pub invariant-loop-temp : goal.invariant-loop-temp
invariant-loop-temp l = record {
  size : length l.self ≡ length l.initial.self;
  none : (k : ℕ) → k < l.temp → copy_of l.self k ≡ None;
}
