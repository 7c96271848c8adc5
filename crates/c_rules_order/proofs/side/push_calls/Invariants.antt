use Rattle.std.proofs.Common.{◌≡◌, ◌++◌, map, take}
use Rattle.c_rules_calls.specs.Placed.{placed}
use Rattle.c_rules_order.proofs.side.push_calls.Given as goal

abbrev pub invariant-loop-call : goal.invariant-loop-call
invariant-loop-call l = l.calls ≡ l.initial.calls ++ map placed (take l.call-index l.call-items)
