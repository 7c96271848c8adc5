use Rattle.std.proofs.Common.{Some, map, sym, ap, ◌∙◌}
use Rattle.std.specs.Prelude.{slice_get}
use Rattle.std.specs.List.{position}
use Rattle.c_syntax.specs.Program.{tfunction_tree, tprogram_tree}
use Rattle.c_layout.specs.MainFunction.{is_named_main}
use Rattle.c_rules.proofs.Mains.{function_at, main_is, main_is_not, no_main}
use Rattle.c_rules.proofs.start.main_function.Goals as goal

pub returns-in-None : goal.returns-in-None
returns-in-None c =
    no_main (tprogram_tree c.args.program.now)
    (c.in-None.ensures.place ∙ ap (λ fs. position is_named_main (map tfunction_tree fs)) c.as_slice-functions.ensures)

pub returns-then-is_start : goal.returns-then-is_start
returns-then-is_start c =
    let function = c.index-functions-main.result in
    main_is (tprogram_tree c.args.program.now) c.in-Some.main (tfunction_tree function)
    (c.in-Some.ensures.place ∙ ap (λ fs. position is_named_main (map tfunction_tree fs)) c.as_slice-functions.ensures)
    (ap (λ fs. slice_get (map tfunction_tree fs) c.in-Some.main) (sym c.as_slice-functions.ensures)
    ∙ function_at c.as_slice-functions.result.now c.in-Some.main function c.in-Some.ensures.inside
    ∙ ap (λ f. Some (tfunction_tree f)) (sym c.index-functions-main.is))
    c.if-is_start.ensures

pub returns-else-is_start : goal.returns-else-is_start
returns-else-is_start c =
    let function = c.index-functions-main.result in
    main_is_not (tprogram_tree c.args.program.now) c.in-Some.main (tfunction_tree function)
    (c.in-Some.ensures.place ∙ ap (λ fs. position is_named_main (map tfunction_tree fs)) c.as_slice-functions.ensures)
    (ap (λ fs. slice_get (map tfunction_tree fs) c.in-Some.main) (sym c.as_slice-functions.ensures)
    ∙ function_at c.as_slice-functions.result.now c.in-Some.main function c.in-Some.ensures.inside
    ∙ ap (λ f. Some (tfunction_tree f)) (sym c.index-functions-main.is))
    c.if-is_start.ensures
