use Rattle.std.proofs.Common.{map, take}
use Rattle.c_rules_calls.specs.Placed.{placed}
use Rattle.c_rules_calls.specs.Depths.{IsDepth}
use Rattle.c_rules_calls.proofs.depth.depth_of.Given as goal

abbrev pub invariant-loop-call : goal.invariant-loop-call
invariant-loop-call l = IsDepth l.depths (map placed (take l.call-index l.calls)) l.deepest
