use Rattle.std.proofs.Common.{length, drop}
use Rattle.c_syntax.specs.Program.{tprogram_tree}
use Rattle.lower_program.proofs.Orders.{InOrder}
use Rattle.lower_program.proofs.program.lower_order.Given as goal

-- what was lowered, and the rest of the order, make the whole
abbrev pub invariant-loop-f : goal.invariant-loop-f
invariant-loop-f l = InOrder (tprogram_tree l.program) (length l.program.functions) l.order (drop l.f-index l.order) l.done
