use Rattle.std.proofs.Common.{ℕ, length}
use Rattle.c_objects.specs.Writing.{NameSame, Rise}
use Rattle.c_objects.proofs.initial.ahead.Given as goal

abbrev pub invariant-loop-first : goal.invariant-loop-first
invariant-loop-first l = NameSame l.byte l.left l.fn.named × ((low : ℕ) → Rise low l.fn.named → (later : ℕ) × Rise later l.left)

abbrev pub decreases-loop-first : goal.decreases-loop-first
decreases-loop-first l = length l.left
