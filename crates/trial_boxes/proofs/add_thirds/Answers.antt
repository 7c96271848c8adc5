use Rattle.std.proofs.Common.{◌∙◌, ◌∷◌, [], pos, to_z, of_z, get_or, FitsSigned, rules}
use Rattle.std.proofs.lemmas.Int.{to_z-of_z}
use mir.Syntax.{w128}
use Rattle.trial_boxes.proofs.Walking.{one_more}
use Rattle.trial_boxes.proofs.add_thirds.Goals as goal

pub loop-c-preserved : goal.loop-c-preserved
loop-c-preserved c =
    let n = get_or c.args.thirds.now c.loop-c.c-index (pos 0) in let fits : FitsSigned w128 n = search rules in
    one_more (λ x. (to_z w128 (of_z w128 c.args.a) ∷ to_z w128 (of_z w128 c.args.b) ∷ x ∷ []) ∷ []) c.loop-c.all.items _
    c.args.thirds.now c.loop-c.c-index (pos 0) c.loop-c-test.true (rw (← to_z-of_z w128 n fits) c.in_ok-push.ensures.items)
    ∙ c.loop-c.invariant
