use Rattle.ramp_constants.proofs.Around.{powers_alone}
use Rattle.ramp_constants.proofs.steps.ramp_steps.Goals as goal
