use Rattle.std.proofs.Common.{◌≡◌, ℕ, ◌<◌, Some}
use Rattle.mem_objects.specs.Copies.{copy_of}
use Rattle.mem_objects.proofs.copies.Copies.covers.Given as goal

abbrev pub invariant-loop-temp : goal.invariant-loop-temp
invariant-loop-temp l = (k x : ℕ) → k < l.temp → copy_of l.self k ≡ Some x → copy_of l.other k ≡ Some x
