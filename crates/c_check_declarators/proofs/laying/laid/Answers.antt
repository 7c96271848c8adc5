use Rattle.std.proofs.Common.{◌≡◌, ap, sym, ◌∙◌, [], ◌∷◌, ◌++◌, map, arith}
use Rattle.std.proofs.lemmas.Grind.{common_steps}
use Rattle.std.proofs.lemmas.List.{map-append}
use Rattle.std.proofs.lemmas.Option.{IfSome_then}
use Rattle.c_typing.specs.Declarators as declarators
use Rattle.c_check_names.specs.Views.{refusal_of}
use Rattle.c_check_names.specs.Trees.{form_tree}
use Rattle.c_check_names.specs.Worlds.{world_of}
use Rattle.c_check_declarators.specs.Views.{step_tree}
use Rattle.c_check_declarators.proofs.Steps.{laid_typed, laid_refused, laid_none}
use Rattle.c_check_declarators.proofs.laying.laid.Goals as goal

pub returns-in-Err : goal.returns-in-Err
returns-in-Err c =
    let w = world_of c.args.world.now in
    let inner = map step_tree c.in-Some.inner.now in
    let step = step_tree c.in-Some.step.now in
    let form = form_tree c.inward.laying.form in
    let split : map step_tree c.inward.left.now ≡ inner ++ step ∷ [] = ap (map step_tree) c.in-Some.ensures.cases.0 ∙ map-append step_tree c.in-Some.inner.now (c.in-Some.step.now ∷ []) in
    IfSome_then (refusal_of c.in-Err.error) c.in-Err.ensures.made
    (λ r p. sym (c.inward.invariant.0 ∙ ap (λ steps. declarators.laid w c.args.pos steps form) split ∙ laid_refused w c.args.pos inner step form r (sym p)))

pub inward-preserved : goal.inward-preserved
inward-preserved c =
    let w = world_of c.args.world.now in
    let inner = map step_tree c.in-Some.inner.now in
    let step = step_tree c.in-Some.step.now in
    let form = form_tree c.inward.laying.form in
    let split : map step_tree c.inward.left.now ≡ inner ++ step ∷ [] = ap (map step_tree) c.in-Some.ensures.cases.0 ∙ map-append step_tree c.in-Some.inner.now (c.in-Some.step.now ∷ []) in
    (c.inward.invariant.0 ∙ ap (λ steps. declarators.laid w c.args.pos steps form) split ∙ laid_typed w c.args.pos inner step form (form_tree c.in-Ok.laying.form) (sym c.in-Ok.ensures.made), c.in-Ok.ensures.told)

pub returns : goal.returns
returns c =
    let w = world_of c.args.world.now in
    let form = form_tree c.inward.laying.form in
    let none : c.inward.left.now ≡ [] = grind (arith, common_steps, c.in_default.ensures.cases) in
    sym (c.inward.invariant.0 ∙ ap (λ steps. declarators.laid w c.args.pos (map step_tree steps) form) none ∙ laid_none w c.args.pos form)
