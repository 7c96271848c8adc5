use Rattle.std.proofs.Common.{take}
use Rattle.mem_cell_loads.specs.Places.{IsReadIn}
use Rattle.mem_cell_loads.proofs.along.read_each.Given as goal

abbrev pub invariant-loop-object : goal.invariant-loop-object
invariant-loop-object g l = IsReadIn g.D.Oracle.admits l.known (take l.object-index l.objects) l.reach.first l.reach.end l.reach.step l.ty l.all
