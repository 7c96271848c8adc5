use Rattle.std.proofs.Common.{◌≡◌, take}
use Rattle.c_rules_order.proofs.side.Side.writing_all.Given as goal

abbrev pub invariant-loop-touch : goal.invariant-loop-touch
invariant-loop-touch l = l.writes ≡ take l.touch-index l.touches
