use Rattle.std.proofs.Common.{◌≡◌, drop}
use Rattle.mem_objects.specs.Cells.{ended}
use Rattle.mem_objects.proofs.cells.Cells.leave.Given as goal

-- those that are left end too
abbrev pub invariant-loop-name : goal.invariant-loop-name
invariant-loop-name l = ended (drop l.name-index l.names) l.self ≡ ended l.names l.initial.self
