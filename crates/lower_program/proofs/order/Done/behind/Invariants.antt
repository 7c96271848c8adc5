use Rattle.std.proofs.Common.{◌≡◌, List}
use Rattle.std.specs.Prelude.{map, drop, max}
use Rattle.c_rules_calls.specs.Placed.{placed}
use Rattle.lower_trees.specs.LowerProgram as programs
use Rattle.lower_program.specs.Order.{HasTops}
use Rattle.lower_program.proofs.order.Done.behind.Given as goal

abbrev pub invariant-loop-call : goal.invariant-loop-call
invariant-loop-call l = (all : List programs.Placed) → HasTops l.self all
    → max l.row (programs.behind_calls all (map placed (drop l.call-index l.calls))) ≡ programs.behind_calls all (map placed l.calls)
