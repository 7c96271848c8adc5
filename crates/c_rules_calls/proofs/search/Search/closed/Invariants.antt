use Rattle.std.proofs.Common.{◌≡◌, map, take}
use Rattle.c_rules_calls.specs.Placed.{placed}
use Rattle.c_rules_calls.proofs.search.Search.closed.Given as goal

abbrev pub invariant-loop-step : goal.invariant-loop-step
invariant-loop-step l = l.calls ≡ map placed (take l.step-index l.step-items)
