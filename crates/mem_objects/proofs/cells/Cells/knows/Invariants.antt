use Rattle.std.proofs.Common.{◌≡◌, ℕ, ◌<◌, None}
use Rattle.mem_objects.specs.Cells.{cell_of}
use Rattle.mem_objects.proofs.cells.Cells.knows.Given as goal

abbrev pub invariant-loop-x : goal.invariant-loop-x
invariant-loop-x l = (k : ℕ) → k < l.x → cell_of l.self k ≡ None
