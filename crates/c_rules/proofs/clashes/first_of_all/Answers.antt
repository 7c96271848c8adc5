use Rattle.std.proofs.Common.{None, map, sym, subst, ap, ◌∙◌, arith}
use Rattle.c_syntax.specs.Program.{tfunction_tree, tprogram_tree}
use Rattle.c_rules_order.specs.declared.side.Comparison.{Comparison}
use Rattle.c_rules_order.specs.Firsts.{or_first}
use Rattle.c_rules.specs.Earliest.{IsFirst}
use Rattle.c_rules.specs.Sequenced.{Clash, compared_by, IsClashOf}
use Rattle.c_rules.proofs.Earliest.{found_all, found_more, none_below}
use Rattle.c_rules.proofs.Clashing.{clash_answer, first_told, only_clash}
use Rattle.c_rules.proofs.Functions.{compared_here, none_compared}
use Rattle.c_rules.proofs.Members.{none_first}
use Rattle.c_rules.proofs.clashes.first_of_all.Goals as goal

pub loop-function-init : goal.loop-function-init
loop-function-init c = none_below (λ (c : Comparison). c.pos) (IsClashOf (tprogram_tree c.args.program.now))

pub loop-function-preserved : goal.loop-function-preserved
loop-function-preserved c =
    let program = tprogram_tree c.args.program.now in
    let functions = c.as_slice-function-items.result.now in
    let n = c.loop-function.function-index in
    found_more (λ (c : Comparison). c.pos) (IsClashOf program) n c.loop-function.found c.in_ok-clash_in.field-0 c.earlier-found.result c.loop-function.invariant
    (only_clash program n c.in_ok-clash_in.field-0
    (first_told program c.args.known.now c.requires (compared_by program n) c.in_ok-clash_in.field-0
    (c.in_ok-clash_in.ensures
    ∙ ap (or_first c.args.known.now None) (compared_here program functions (ap (map tfunction_tree)
    (sym c.as_slice-function-items.ensures)) n c.function-item.result
    c.loop-function-test.true c.function-item.is))))
    c.earlier-found.ensures

pub returns : goal.returns
returns c =
    let program = tprogram_tree c.args.program.now in
    let functions = c.as_slice-function-items.result.now in
    clash_answer program c.args.known.now c.requires c.loop-function.found
    (found_all (λ (c : Comparison). c.pos) (IsClashOf program) c.loop-function.function-index c.loop-function.found
    (λ f a past h. none_first (Clash program) a
    (subst (λ xs. IsFirst (Clash program) xs a)
    (none_compared program functions (ap (map tfunction_tree) (sym c.as_slice-function-items.ensures)) f (omega (arith, past, c.loop-function-test.false))) h))
    c.loop-function.invariant)
