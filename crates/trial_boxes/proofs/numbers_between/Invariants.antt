use Rattle.std.proofs.Common.{◌≡◌, ◌⊎◌, ◌≤ℤ◌}
use Rattle.trial_boxes.proofs.Walking.{HasBelow}
use Rattle.trial_boxes.proofs.numbers_between.Given as goal

abbrev pub invariant-loop-n : goal.invariant-loop-n
invariant-loop-n l = HasBelow l.lo l.n l.all.items × ((l.n ≤ℤ l.hi) ⊎ (l.n ≡ l.lo))
