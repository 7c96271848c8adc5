use Rattle.std.proofs.Common.{◌≡◌, ◌++◌, map, take}
use Rattle.c_rules_calls.specs.Placed.{placed}
use Rattle.c_rules_order.specs.Firsts.{called_reads, called_writes}
use Rattle.c_rules_order.proofs.clash.add_calls.Given as goal

abbrev pub invariant-loop-call : goal.invariant-loop-call
invariant-loop-call l = record {
  reads : l.effects.reads ≡ l.initial.effects.reads ++ called_reads l.known (map placed (take l.call-index l.calls));
  writes : l.effects.writes ≡ l.initial.effects.writes ++ called_writes l.known (map placed (take l.call-index l.calls));
}
