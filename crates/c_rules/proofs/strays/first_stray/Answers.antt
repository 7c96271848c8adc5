use Rattle.std.proofs.Common.{map, sym, ap, ◌∙◌, arith}
use Rattle.std.specs.Prelude.{slice_get}
use Rattle.c_syntax.specs.Program.{tfunction_tree, tprogram_tree}
use Rattle.c_rules.specs.Rules.{IsStrayOf}
use Rattle.c_rules.proofs.Earliest.{found_all, found_more, none_below}
use Rattle.c_rules.proofs.Functions.{no_strays, only_stray, stray_answer, strays_at}
use Rattle.c_rules.proofs.strays.first_stray.Goals as goal

pub loop-function-init : goal.loop-function-init
loop-function-init c = none_below (λ at. at) (IsStrayOf (tprogram_tree c.args.program.now))

pub loop-function-preserved : goal.loop-function-preserved
loop-function-preserved c =
    let program = tprogram_tree c.args.program.now in
    let functions = c.as_slice-function-items.result.now in
    let n = c.loop-function.function-index in
    found_more (λ at. at) (IsStrayOf program) n c.loop-function.found c.in_ok-stray_in.field-0 c.earlier-found.result c.loop-function.invariant
    (only_stray program n c.in_ok-stray_in.field-0
    (c.in_ok-stray_in.ensures
    ∙ ap (λ xs. slice_get xs 0) (strays_at program functions (ap (map tfunction_tree) (sym c.as_slice-function-items.ensures)) n c.function-item.result
    c.loop-function-test.true c.function-item.is)))
    c.earlier-found.ensures

pub returns : goal.returns
returns c =
    let program = tprogram_tree c.args.program.now in
    let functions = c.as_slice-function-items.result.now in
    stray_answer program c.loop-function.found
    (found_all (λ at. at) (IsStrayOf program) c.loop-function.function-index c.loop-function.found
    (λ f a past. no_strays program functions (ap (map tfunction_tree) (sym c.as_slice-function-items.ensures)) f a
    (omega (arith, past, c.loop-function-test.false))) c.loop-function.invariant)
