use Rattle.std.proofs.Common.{◌≡◌, false, take}
use Rattle.std.specs.List.{list_any}
use Rattle.c_rules_effects.specs.Met.{met}
use Rattle.c_rules_effects.proofs.touch_set.meets_one.Given as goal

abbrev pub invariant-loop-other : goal.invariant-loop-other
invariant-loop-other l = list_any (met l.taken l.touch) (take l.other-index l.group) ≡ false
