use Rattle.std.proofs.Common.{◌≡◌, ℕ, ◌<◌, ◌≤◌, length}
use Rattle.mem_objects.specs.Cells.{cell_of, IsJoined}
use Rattle.mem_objects.proofs.cells.Cells.join.Given as goal

abbrev pub invariant-loop-x : goal.invariant-loop-x
invariant-loop-x l = record {
  size : length l.self ≡ length l.initial.self;
  joins : (k : ℕ) → k < l.x → IsJoined (cell_of l.initial.self k) (cell_of l.other k) (cell_of l.self k);
  rest : (k : ℕ) → l.x ≤ k → cell_of l.self k ≡ cell_of l.initial.self k;
}
