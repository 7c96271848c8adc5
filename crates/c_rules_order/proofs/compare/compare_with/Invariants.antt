use Rattle.std.proofs.Common.{◌≡◌, take}
use Rattle.c_rules_order.specs.Firsts.{or_first}
use Rattle.c_rules_order.specs.Sides.{with_each}
use Rattle.c_rules_order.proofs.compare.compare_with.Given as goal

abbrev pub invariant-loop-before : goal.invariant-loop-before
invariant-loop-before l = l.found ≡ or_first l.known l.initial.found (with_each l.pos (take l.before-index l.earlier) l.side)
