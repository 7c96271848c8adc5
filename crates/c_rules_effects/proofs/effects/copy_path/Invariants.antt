use Rattle.std.proofs.Common.{◌≡◌, take}
use Rattle.c_rules_effects.proofs.effects.copy_path.Given as goal

abbrev pub invariant-loop-part : goal.invariant-loop-part
invariant-loop-part l = l.copy ≡ take l.part-index l.part-items
