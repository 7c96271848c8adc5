use Rattle.std.proofs.Common.{◌≡◌}
use Rattle.mem_cell_loads.specs.Places.{IsReadAlong}
use Rattle.mem_cell_loads.proofs.along.read_along.Given as goal

abbrev pub invariant-loop-i : goal.invariant-loop-i
invariant-loop-i g l = (l.i-end ≡ l.reach.end) × IsReadAlong g.D.Oracle.admits l.known l.object l.reach.first l.i l.reach.step l.ty l.all
