use Rattle.std.proofs.Common.{List, ◌++◌, take}
use Rattle.c_rules_effects.specs.declared.touch.Touch.{Touch}
use Rattle.c_rules_effects.specs.Held.{Holds}
use Rattle.c_rules_order.proofs.clash.insert_all.Given as goal

abbrev pub invariant-loop-touch : goal.invariant-loop-touch
invariant-loop-touch l = (held : List Touch) → Holds l.initial.set l.taken held → Holds l.set l.taken (held ++ take l.touch-index l.touches)
