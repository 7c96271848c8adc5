use Rattle.std.proofs.Common.{map, take}
use Rattle.std.specs.Prelude.{◌↔◌, Contains}
use Rattle.c_syntax.specs.Types.{object_tree}
use Rattle.c_rules_effects.specs.declared.touch.Touch.{Touch}
use Rattle.c_rules_order.specs.Gathered.{IsSeenObject}
use Rattle.c_rules_order.proofs.gather.seen_among.Given as goal

abbrev pub invariant-loop-touch : goal.invariant-loop-touch
invariant-loop-touch l = (t : Touch) → Contains l.list t ↔ (Contains (take l.touch-index l.touches) t × IsSeenObject (map object_tree l.objects) t)
