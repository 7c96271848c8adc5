use Rattle.std.proofs.Common.{◌≡◌, ◌++◌, take}
use Rattle.std.specs.List.{flat_map}
use Rattle.ramp_constants.specs.ConstantSteps.{steps_around}
use Rattle.ramp_constants.proofs.steps.add_around.Given as goal

abbrev pub invariant-loop-constant : goal.invariant-loop-constant
invariant-loop-constant l = l.steps.items ≡ l.initial.steps.items ++ flat_map steps_around (take l.constant-index l.constants)
