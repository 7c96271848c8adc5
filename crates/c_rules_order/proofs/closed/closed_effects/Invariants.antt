use Rattle.std.proofs.Common.{length, take}
use Rattle.c_syntax.specs.Program.{tprogram_tree}
use Rattle.c_rules_order.proofs.Closing.{IsKnownAfter}
use Rattle.c_rules_order.proofs.closed.closed_effects.Given as goal

abbrev pub invariant-loop-function : goal.invariant-loop-function
invariant-loop-function l = IsKnownAfter (tprogram_tree l.program) (length l.graph) (take l.function-index l.function-items) l.known.items
