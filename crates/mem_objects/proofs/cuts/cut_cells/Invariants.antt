use Rattle.std.proofs.Common.{◌≡◌, drop}
use Rattle.mem_objects.specs.Cells.{cut_by}
use Rattle.mem_objects.proofs.cuts.cut_cells.Given as goal

-- those that are left cut too
abbrev pub invariant-loop-temp : goal.invariant-loop-temp
invariant-loop-temp l = cut_by l.copies l.ranges (drop l.temp-index l.temps) l.cells ≡ cut_by l.copies l.ranges l.temps l.initial.cells
