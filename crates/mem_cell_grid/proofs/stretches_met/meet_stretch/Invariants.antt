use Rattle.mem_cell_grid.proofs.Meetings.{IsSeen}
use Rattle.mem_cell_grid.proofs.stretches_met.meet_stretch.Given as goal

abbrev pub invariant-loop-g : goal.invariant-loop-g
invariant-loop-g l = IsSeen l.others l.f l.initial.met.items l.met.items l.seen.low l.seen.kept
