use Rattle.std.proofs.Common.{take, ◌≤◌, length}
use Rattle.mem_cell_grid.specs.Meetings.{AreStretchesMet}
use Rattle.mem_cell_grid.proofs.stretches_met.meet_stretches.Given as goal

abbrev pub invariant-loop-f : goal.invariant-loop-f
invariant-loop-f l = (l.at ≤ length l.others) × AreStretchesMet (take l.f-index l.stretches) l.others l.met.items l.kept
