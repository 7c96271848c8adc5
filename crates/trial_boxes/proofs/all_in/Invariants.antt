use Rattle.std.proofs.Common.{take}
use Rattle.std.specs.Prelude.{All}
use Rattle.trial_boxes.specs.Boxes.{IsHeld}
use Rattle.trial_boxes.proofs.all_in.Given as goal

abbrev pub invariant-loop-n : goal.invariant-loop-n
invariant-loop-n l = All (IsHeld l.r l.c) (take l.n-index l.numbers)
