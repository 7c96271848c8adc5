use Rattle.std.proofs.Common.{◌≡◌, ◌++◌, drop}
use Rattle.trial_boxes.specs.Boxes.{triples}
use Rattle.trial_boxes.proofs.valuations.Given as goal

abbrev pub invariant-loop-a : goal.invariant-loop-a
invariant-loop-a l = l.all.items ++ triples (drop l.a-index l.firsts) l.seconds l.thirds ≡ triples l.fn.firsts l.fn.seconds l.fn.thirds
