use Rattle.std.proofs.Common.{◌⊎◌, map, take}
use Rattle.std.specs.Prelude.{◌↔◌, Contains}
use Rattle.c_rules_calls.specs.Placed.{placed}
use Rattle.c_rules_effects.specs.declared.touch.Touch.{Touch}
use Rattle.c_rules_order.specs.Gathered.{HasCalledReads}
use Rattle.c_rules_order.proofs.gather.with_reads.Given as goal

abbrev pub invariant-loop-call : goal.invariant-loop-call
invariant-loop-call l = (t : Touch) → Contains l.more t ↔ (Contains l.initial.more t ⊎ HasCalledReads l.known (map placed (take l.call-index l.calls)) t)
