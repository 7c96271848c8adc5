use Rattle.std.proofs.Common.{◌≡◌, map, take}
use Rattle.c_objects.specs.Writing.{named_by}
use Rattle.c_machine_trees.specs.Statements.{inits_from}
use Rattle.c_machine_values.proofs.initialisers.named_bytes.Given as goal

abbrev pub invariant-loop-init : goal.invariant-loop-init
invariant-loop-init l = l.named.items ≡ map named_by (inits_from (take l.init-index l.inits))
