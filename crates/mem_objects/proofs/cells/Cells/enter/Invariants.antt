use Rattle.std.proofs.Common.{◌≡◌, map, drop}
use Rattle.c_syntax.specs.Types.{object_tree}
use Rattle.mem_objects.specs.Cells.{entered}
use Rattle.mem_objects.proofs.cells.Cells.enter.Given as goal

-- those that are left begin too
abbrev pub invariant-loop-name : goal.invariant-loop-name
invariant-loop-name l = entered (map object_tree l.objects) (drop l.name-index l.names) l.self ≡ entered (map object_tree l.objects) l.names l.initial.self
