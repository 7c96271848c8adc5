use Rattle.std.proofs.Common.{take}
use Rattle.mem_cell_bytes.specs.Contents.{nothing}
use Rattle.mem_cell_bytes.specs.Weights.{contents_weight}
use Rattle.mem_cell_grid.specs.Meetings.{AreMet, AreContentsMet}
use Rattle.mem_cell_grid.proofs.grid.meet_all.Given as goal

abbrev pub invariant-loop-x : goal.invariant-loop-x
invariant-loop-x l = AreMet contents_weight nothing AreContentsMet (take l.x l.objects) l.others l.all.items l.kept
