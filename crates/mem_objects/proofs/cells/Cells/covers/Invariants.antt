use Rattle.std.proofs.Common.{◌≡◌, ℕ, ◌<◌, Some}
use Rattle.mem_objects.specs.declared.cells.KnownCell.{KnownCell}
use Rattle.mem_objects.specs.Cells.{cell_of, IsWider}
use Rattle.mem_objects.proofs.cells.Cells.covers.Given as goal

abbrev pub invariant-loop-x : goal.invariant-loop-x
invariant-loop-x l = (k : ℕ) → k < l.x → (c : KnownCell) → cell_of l.self k ≡ Some c → (d : KnownCell) × (cell_of l.other k ≡ Some d) × IsWider c d
