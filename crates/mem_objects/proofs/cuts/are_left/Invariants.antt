use Rattle.std.proofs.Common.{◌≡◌, drop}
use Rattle.mem_objects.specs.Cells.{are_cells_left}
use Rattle.mem_objects.proofs.cuts.are_left.Given as goal

-- those that are left decide for all
abbrev pub invariant-loop-temp : goal.invariant-loop-temp
invariant-loop-temp l = are_cells_left l.copies (drop l.temp-index l.temps) l.cells ≡ are_cells_left l.copies l.temps l.cells
