use Rattle.std.proofs.Common.{◌≡◌, [], map, take}
use Rattle.c_rules_calls.specs.Placed.{placed}
use Rattle.c_rules_order.specs.Firsts.{called_writes}
use Rattle.c_rules_order.proofs.clash.one_has_writes.Given as goal

abbrev pub invariant-loop-call : goal.invariant-loop-call
invariant-loop-call l = called_writes l.known (map placed (take l.call-index l.calls)) ≡ []
