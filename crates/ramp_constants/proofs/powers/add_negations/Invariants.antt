use Rattle.std.proofs.Common.{◌≡◌, ◌++◌, ◌≤◌}
use Rattle.num_api.specs.Powers.{negations_from}
use Rattle.ramp_constants.proofs.powers.add_negations.Given as goal

abbrev pub invariant-loop-exponent : goal.invariant-loop-exponent
invariant-loop-exponent l = record { few : l.exponent ≤ 64; steps : l.steps.items ++ negations_from l.exponent ≡ l.initial.steps.items ++ negations_from 64 }

abbrev pub decreases-loop-exponent : goal.decreases-loop-exponent
decreases-loop-exponent l = l.exponent
