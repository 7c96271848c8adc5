use Rattle.std.proofs.Common.{ap, ◌∙◌, sym, arith, FitsSigned}
use Rattle.std.proofs.lemmas.Int.{ints, to_z-of_z}
use mir.Syntax.{w128}
use Rattle.ext_int.specs.declared.Ext.TheVariants.{Low, Fin}
use Rattle.num_api.specs.Steps.{greatest}
use Rattle.intervals.specs.Widening.{step_or}
use Rattle.intervals.proofs.Widenings.{small-fits, no_step_below, same_below}
use Rattle.intervals.proofs.widening.step_below.Goals as goal

pub returns-then-n : goal.returns-then-n
returns-then-n g c = ap (step_or Low) (sym (no_step_below g.S.Steps.list c.args.n c.requires.small (omega (arith, ints))))

pub returns-in-Some : goal.returns-in-Some
returns-in-Some g c =
    let list = g.S.Steps.list in
    let fits : FitsSigned w128 c.min.result = record { sfits = c.min.type_inv } in
    let lesser = rw (to_z-of_z w128 c.args.n c.ranges.n) at c.min.ensures.value in
    ap Fin (to_z-of_z w128 c.in-Some.step (small-fits c.in-Some.step c.in-Some.ensures.small))
    ∙ ap (step_or Low) (c.in-Some.ensures.step ∙ ap (greatest list) (to_z-of_z w128 c.min.result fits) ∙ same_below list c.args.n c.min.result c.requires.small lesser)

pub returns-in-None : goal.returns-in-None
returns-in-None g c =
    let list = g.S.Steps.list in
    let fits : FitsSigned w128 c.min.result = record { sfits = c.min.type_inv } in
    let lesser = rw (to_z-of_z w128 c.args.n c.ranges.n) at c.min.ensures.value in
    ap (step_or Low) (c.in-None.ensures.step ∙ ap (greatest list) (to_z-of_z w128 c.min.result fits) ∙ same_below list c.args.n c.min.result c.requires.small lesser)
