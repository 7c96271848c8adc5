use Rattle.std.proofs.Common.{take, ◌≤◌, length}
use Rattle.mem_cell_grid.specs.Meetings.{AreCellsMet}
use Rattle.mem_cell_grid.proofs.cells_met.meet_cells.Given as goal

abbrev pub invariant-loop-e : goal.invariant-loop-e
invariant-loop-e l = (l.at ≤ length l.others) × AreCellsMet (take l.e-index l.cells) l.others l.met.items l.kept
