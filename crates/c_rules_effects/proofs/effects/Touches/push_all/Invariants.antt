use Rattle.std.proofs.Common.{◌≡◌, ◌++◌, take}
use Rattle.c_rules_effects.proofs.effects.Touches.push_all.Given as goal

abbrev pub invariant-loop-touch : goal.invariant-loop-touch
invariant-loop-touch l = l.self ≡ l.initial.self ++ take l.touch-index l.touch-items
