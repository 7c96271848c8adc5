use Rattle.std.proofs.Common.{◌≡◌, false, List, take}
use Rattle.std.specs.List.{list_any}
use Rattle.c_rules_effects.specs.declared.touch.Touch.{Touch}
use Rattle.c_rules_effects.specs.Held.{Holds}
use Rattle.c_rules_effects.specs.Met.{met}
use Rattle.c_rules_order.proofs.clash.one_met.Given as goal

abbrev pub invariant-loop-write : goal.invariant-loop-write
invariant-loop-write l = (held : List Touch) → Holds l.touched l.taken held
    → list_any (λ s. list_any (met l.taken s) held) (take l.write-index l.writes) ≡ false
