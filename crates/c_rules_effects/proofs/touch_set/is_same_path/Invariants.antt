use Rattle.std.proofs.Common.{◌≡◌, take}
use Rattle.c_rules_effects.proofs.touch_set.is_same_path.Given as goal

abbrev pub invariant-loop-at : goal.invariant-loop-at
invariant-loop-at l = take l.at l.path ≡ take l.at l.other
