use Rattle.std.proofs.Common.{◌≡◌, ℕ, ◌<◌, None}
use Rattle.mem_objects.specs.Copies.{copy_of}
use Rattle.mem_objects.proofs.copies.Copies.knows.Given as goal

abbrev pub invariant-loop-temp : goal.invariant-loop-temp
invariant-loop-temp l = (k : ℕ) → k < l.temp → copy_of l.self k ≡ None
