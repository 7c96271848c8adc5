use Rattle.std.proofs.Common.{◌≡◌, map, sym, subst}
use Rattle.c_typing.specs.Declarators as declarators
use Rattle.c_typing.specs.Declarators.{step_form, types_of_params}
use Rattle.c_check_names.specs.Views.{Answers}
use Rattle.c_check_names.specs.Trees.{form_tree}
use Rattle.c_check_names.specs.Worlds.{world_of}
use Rattle.c_check_declarators.specs.declared.shape.Step.{Step}
use Rattle.c_check_declarators.specs.Views.{parameter_tree, step_tree}
use Rattle.c_check_declarators.proofs.forms.step_form.Goals as goal

pub returns-in-PointerTo-clause-made : goal.returns-in-PointerTo-clause-made
returns-in-PointerTo-clause-made c =
    let w = world_of c.args.world.now in
    let form = form_tree c.args.laying.form in
    c.untold.ensures.made (step_form w c.args.pos (step_tree c.args.step.now) form) w
    (subst (λ (step : Step). Answers (λ out. out ≡ step_form w c.args.pos (step_tree step) form) form_tree w c.pointer_form.result) (sym c.in-PointerTo.is) c.pointer_form.ensures)

pub returns-in-OpenArray-clause-made : goal.returns-in-OpenArray-clause-made
returns-in-OpenArray-clause-made c =
    let w = world_of c.args.world.now in
    let form = form_tree c.args.laying.form in
    c.untold-in-OpenArray.ensures.made (step_form w c.args.pos (step_tree c.args.step.now) form) w
    (subst (λ (step : Step). Answers (λ out. out ≡ step_form w c.args.pos (step_tree step) form) form_tree w c.open_form.result) (sym c.in-OpenArray.is) c.open_form.ensures)

pub returns-in-FunctionOf-clause-made : goal.returns-in-FunctionOf-clause-made
returns-in-FunctionOf-clause-made c =
    let w = world_of c.args.world.now in
    let form = form_tree c.args.laying.form in
    let made =
    subst (λ params. Answers (λ out. out ≡ declarators.function_form w c.args.pos (types_of_params (map parameter_tree params)) form) form_tree w c.function_form.result)
    c.as_slice.ensures.value c.function_form.ensures in
    c.untold-in-FunctionOf.ensures.made (step_form w c.args.pos (step_tree c.args.step.now) form) w
    (subst (λ (step : Step). Answers (λ out. out ≡ step_form w c.args.pos (step_tree step) form) form_tree w c.function_form.result) (sym c.in-FunctionOf.is) made)
