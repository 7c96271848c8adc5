use Rattle.std.proofs.Common.{◌≡◌, ◌++◌, ◌≤◌, ◌-◌}
use Rattle.num_api.specs.Powers.{powers_from}
use Rattle.ramp_constants.proofs.powers.add_positives.Given as goal

abbrev pub invariant-loop-exponent : goal.invariant-loop-exponent
invariant-loop-exponent l = record { few : l.exponent ≤ 65; steps : l.steps.items ++ powers_from l.exponent (65 - l.exponent) ≡ l.initial.steps.items ++ powers_from 1 64 }

abbrev pub decreases-loop-exponent : goal.decreases-loop-exponent
decreases-loop-exponent l = 65 - l.exponent
