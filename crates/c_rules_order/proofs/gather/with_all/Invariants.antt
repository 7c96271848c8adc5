use Rattle.std.proofs.Common.{◌⊎◌, take}
use Rattle.std.specs.Prelude.{◌↔◌, Contains}
use Rattle.c_rules_effects.specs.declared.touch.Touch.{Touch}
use Rattle.c_rules_order.proofs.gather.with_all.Given as goal

abbrev pub invariant-loop-touch : goal.invariant-loop-touch
invariant-loop-touch l = (t : Touch) → Contains l.more t ↔ (Contains l.initial.more t ⊎ Contains (take l.touch-index l.touches) t)
