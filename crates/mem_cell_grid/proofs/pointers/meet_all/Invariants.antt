use Rattle.std.proofs.Common.{◌≡◌, take, None}
use Rattle.mem_cell_bytes.specs.Weights.{pointer_weight}
use Rattle.mem_cell_grid.specs.Meetings.{AreMet, IsPointerMet}
use Rattle.mem_cell_grid.proofs.pointers.meet_all.Given as goal

abbrev pub invariant-loop-d : goal.invariant-loop-d
invariant-loop-d l = (l.none ≡ None) × AreMet pointer_weight None IsPointerMet (take l.d l.sets) l.others l.all.items l.kept
