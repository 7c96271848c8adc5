use Rattle.std.proofs.Common.{◌≡◌, ◌-◌}
use Rattle.num_api.specs.Steps.{least}
use Rattle.num_api.specs.Powers.{power_steps}
use Rattle.num_api.proofs.PowerLemmas.{from_negation}
use Rattle.num_api.proofs.ramp.step_up_to_zero.Given as goal

abbrev pub invariant-loop-k : goal.invariant-loop-k
invariant-loop-k l = least power_steps l.n ≡ least (from_negation (l.k - 1)) l.n
