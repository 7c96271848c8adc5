use Rattle.std.proofs.Common.{ap, ◌∙◌, sym, arith, FitsSigned}
use Rattle.std.proofs.lemmas.Int.{ints, to_z-of_z}
use mir.Syntax.{w128}
use Rattle.ext_int.specs.declared.Ext.TheVariants.{Fin, High}
use Rattle.num_api.specs.Steps.{least}
use Rattle.intervals.specs.Widening.{step_or}
use Rattle.intervals.proofs.Widenings.{small-fits, no_step_above, same_above}
use Rattle.intervals.proofs.widening.step_above.Goals as goal

pub returns-then-n-gt-LIMIT : goal.returns-then-n-gt-LIMIT
returns-then-n-gt-LIMIT g c = ap (step_or High) (sym (no_step_above g.S.Steps.list c.args.n c.requires.small (omega (arith, ints))))

pub returns-in-Some : goal.returns-in-Some
returns-in-Some g c =
    let list = g.S.Steps.list in
    let fits : FitsSigned w128 c.max.result = record { sfits = c.max.type_inv } in
    let greater = rw (to_z-of_z w128 c.args.n c.ranges.n) at c.max.ensures.value in
    ap Fin (to_z-of_z w128 c.in-Some.step (small-fits c.in-Some.step c.in-Some.ensures.small))
    ∙ ap (step_or High) (c.in-Some.ensures.step ∙ ap (least list) (to_z-of_z w128 c.max.result fits) ∙ same_above list c.args.n c.max.result c.requires.small greater)

pub returns-in-None : goal.returns-in-None
returns-in-None g c =
    let list = g.S.Steps.list in
    let fits : FitsSigned w128 c.max.result = record { sfits = c.max.type_inv } in
    let greater = rw (to_z-of_z w128 c.args.n c.ranges.n) at c.max.ensures.value in
    ap (step_or High) (c.in-None.ensures.step ∙ ap (least list) (to_z-of_z w128 c.max.result fits) ∙ same_above list c.args.n c.max.result c.requires.small greater)
