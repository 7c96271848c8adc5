use Rattle.std.proofs.Common.{◌≡◌, take}
use Rattle.c_rules_effects.proofs.meeting.along.Given as goal

abbrev pub invariant-loop-at : goal.invariant-loop-at
invariant-loop-at l = take l.at l.path ≡ take l.at l.other
