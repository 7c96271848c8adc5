use Rattle.std.proofs.Common.{◌++◌, map, ap, subst, ◌∙◌}
use Rattle.std.specs.Prelude.{IfOk}
use Rattle.std.specs.List.{flat_map}
use Rattle.c_syntax.specs.Program.{tfunction_tree, tprogram_tree}
use Rattle.num_api.specs.Powers.{power_steps}
use Rattle.ramp_constants.specs.Constants.{function_constants}
use Rattle.ramp_constants.specs.ConstantSteps.{AreSteps, steps_around}
use Rattle.ramp_constants.proofs.steps.constant_steps.Goals as goal

pub returns : goal.returns
returns c =
    subst (λ xs. IfOk c.steps_with.result (AreSteps (power_steps ++ flat_map steps_around xs)))
    (c.deref.ensures.value ∙ (c.in_ok-add_functions.ensures ∙ ap (λ xs. xs ++ flat_map function_constants (map tfunction_tree c.args.program.now.functions)) c.new-constants.ensures.items))
    c.steps_with.ensures
