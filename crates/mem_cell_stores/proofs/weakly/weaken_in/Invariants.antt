use Rattle.std.proofs.Common.{take}
use Rattle.mem_cell_stores.specs.Hits.{AreWeakened}
use Rattle.mem_cell_stores.proofs.weakly.weaken_in.Given as goal

abbrev pub invariant-loop-object : goal.invariant-loop-object
invariant-loop-object l = AreWeakened (take l.object-index l.objects) l.bytes l.ty l.content l.variables.items l.initial.grid l.grid
