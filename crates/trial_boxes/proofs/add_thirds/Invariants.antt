use Rattle.std.proofs.Common.{◌≡◌, ◌++◌, drop}
use Rattle.trial_boxes.specs.Boxes.{with_thirds}
use Rattle.trial_boxes.proofs.add_thirds.Given as goal

abbrev pub invariant-loop-c : goal.invariant-loop-c
invariant-loop-c l = l.all.items ++ with_thirds l.a l.b (drop l.c-index l.thirds) ≡ l.fn.all.items ++ with_thirds l.fn.a l.fn.b l.fn.thirds
