use Rattle.std.proofs.Common.{◌≡◌, ℕ, ◌<◌, ◌≤◌, length}
use Rattle.plain_runs.specs.Changes.{unless}
use Rattle.mem_objects.specs.Copies.{copy_of}
use Rattle.mem_objects.proofs.copies.Copies.forget_object.Given as goal

abbrev pub invariant-loop-temp : goal.invariant-loop-temp
invariant-loop-temp l = record {
  size : length l.self ≡ length l.initial.self;
  gone : (k : ℕ) → k < l.temp → copy_of l.self k ≡ unless l.object (copy_of l.initial.self k);
  rest : (k : ℕ) → l.temp ≤ k → copy_of l.self k ≡ copy_of l.initial.self k;
}
