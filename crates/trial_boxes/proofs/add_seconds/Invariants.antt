use Rattle.std.proofs.Common.{◌≡◌, ◌++◌, drop}
use Rattle.trial_boxes.specs.Boxes.{with_seconds}
use Rattle.trial_boxes.proofs.add_seconds.Given as goal

abbrev pub invariant-loop-b : goal.invariant-loop-b
invariant-loop-b l = l.all.items ++ with_seconds l.a (drop l.b-index l.seconds) l.thirds ≡ l.fn.all.items ++ with_seconds l.fn.a l.fn.seconds l.fn.thirds
