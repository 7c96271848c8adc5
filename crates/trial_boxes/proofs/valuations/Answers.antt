use Rattle.std.proofs.Common.{◌∙◌, pos, get_or, FitsSigned, rules}
use Rattle.std.proofs.lemmas.Int.{to_z-of_z}
use mir.Syntax.{w128}
use Rattle.trial_boxes.specs.Boxes.{with_seconds}
use Rattle.trial_boxes.proofs.Walking.{one_more}
use Rattle.trial_boxes.proofs.valuations.Goals as goal

pub loop-a-preserved : goal.loop-a-preserved
loop-a-preserved c =
    let n = get_or c.args.firsts.now c.loop-a.a-index (pos 0) in let fits : FitsSigned w128 n = search rules in
    one_more (λ x. with_seconds x c.args.seconds.now c.args.thirds.now) c.loop-a.all.items _
    c.args.firsts.now c.loop-a.a-index (pos 0) c.loop-a-test.true (rw (← to_z-of_z w128 n fits) c.in_ok-add_seconds.ensures)
    ∙ c.loop-a.invariant
