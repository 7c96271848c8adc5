use Rattle.std.proofs.Common.{◌≡◌, ℕ, ◌<◌, length, None}
use Rattle.mem_objects.specs.Cells.{cell_of}
use Rattle.mem_objects.proofs.cells.Cells.forget.Given as goal

abbrev pub invariant-loop-x : goal.invariant-loop-x
invariant-loop-x l = record {
  size : length l.self ≡ length l.initial.self;
  none : (k : ℕ) → k < l.x → cell_of l.self k ≡ None;
}
