use Rattle.std.proofs.Common.{◌≡◌, false, take}
use Rattle.c_rules_calls.specs.Gotos.{around_of, has_label}
use Rattle.c_rules_calls.proofs.walk.is_around.Given as goal

abbrev pub invariant-loop-labels : goal.invariant-loop-labels
invariant-loop-labels l = has_label (around_of (take l.labels-index l.blocks)) l.label ≡ false
