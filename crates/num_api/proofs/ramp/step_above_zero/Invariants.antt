use Rattle.std.proofs.Common.{◌≡◌, ◌-◌}
use Rattle.num_api.specs.Steps.{least}
use Rattle.num_api.specs.Powers.{powers_from}
use Rattle.num_api.proofs.ramp.step_above_zero.Given as goal

abbrev pub invariant-loop-k : goal.invariant-loop-k
invariant-loop-k l = least (powers_from 1 64) l.n ≡ least (powers_from l.k (65 - l.k)) l.n
