use Rattle.std.proofs.Common.{ℕ, ◌≡◌, ◌<◌, false, [], slice_get, Some}
use Rattle.pointsets.specs.Targets.{Among}
use Rattle.mem_cell_bytes.specs.declared.entry.Entry.{Entry}
use Rattle.mem_cell_grid.proofs.ended.are_numbers.Given as goal

abbrev pub invariant-loop-e : goal.invariant-loop-e
invariant-loop-e l = (k : ℕ) (e : Entry) → k < l.e-index → slice_get l.cells k ≡ Some e → e.targets ≡ Among [] false false
