use Rattle.std.proofs.Common.{◌∙◌, pos, to_z, of_z, get_or, FitsSigned, rules}
use Rattle.std.proofs.lemmas.Int.{to_z-of_z}
use mir.Syntax.{w128}
use Rattle.trial_boxes.specs.Boxes.{with_thirds}
use Rattle.trial_boxes.proofs.Walking.{one_more}
use Rattle.trial_boxes.proofs.add_seconds.Goals as goal

pub loop-b-preserved : goal.loop-b-preserved
loop-b-preserved c =
    let n = get_or c.args.seconds.now c.loop-b.b-index (pos 0) in let fits : FitsSigned w128 n = search rules in
    one_more (λ x. with_thirds (to_z w128 (of_z w128 c.args.a)) x c.args.thirds.now) c.loop-b.all.items _
    c.args.seconds.now c.loop-b.b-index (pos 0) c.loop-b-test.true (rw (← to_z-of_z w128 n fits) c.in_ok-add_thirds.ensures)
    ∙ c.loop-b.invariant
