use Rattle.std.proofs.Common.{◌≡◌, take}
use Rattle.c_rules_order.specs.Made.{all_joined}
use Rattle.c_rules_order.proofs.side.all_joined.Given as goal

abbrev pub invariant-loop-side : goal.invariant-loop-side
invariant-loop-side l = l.all ≡ all_joined (take l.side-index l.sides)
