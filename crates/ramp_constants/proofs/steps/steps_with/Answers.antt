use Rattle.std.proofs.Common.{◌++◌, ap, ◌∙◌}
use Rattle.std.specs.List.{flat_map}
use Rattle.num_api.specs.Powers.{power_steps}
use Rattle.ramp_constants.specs.ConstantSteps.{steps_around}
use Rattle.ramp_constants.proofs.Around.{all_steps}
use Rattle.ramp_constants.proofs.steps.steps_with.Goals as goal

pub returns : goal.returns
returns c =
    all_steps c.args.constants.now c.add_around.new.steps.items c.of_numbers.result
    (c.in_ok-add_around.ensures ∙ ap (λ xs. xs ++ flat_map steps_around c.args.constants.now) (c.in_ok-add_powers.ensures ∙ ap (λ xs. xs ++ power_steps) c.new-steps.ensures.items))
    c.of_numbers.ensures.rising c.of_numbers.ensures.same
