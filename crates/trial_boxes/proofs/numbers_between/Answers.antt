use Rattle.std.proofs.Common.{◌∙◌, ap, rules, inl}
use Rattle.std.proofs.lemmas.Int.{to_z-of_z}
use mir.Syntax.{w128}
use Rattle.trial_boxes.proofs.Walking.{next_below, none_between, all_between}
use Rattle.trial_boxes.proofs.numbers_between.Goals as goal
use Rattle.trial_boxes.proofs.numbers_between.Goals.{else-loop-n-test, then-loop-n-test+in_ok-push+else-n-hi}

pub loop-n-preserved : goal.loop-n-preserved
loop-n-preserved c = (next_below _ _ _ c.loop-n.all.items _ (search rules) c.in_ok-push.ensures.items c.loop-n.invariant.0, inl (search rules))

pub returns : goal.returns
returns c =
    let low = to_z-of_z w128 c.args.lo c.ranges.lo in let high = to_z-of_z w128 c.args.hi c.ranges.hi in
    elim c.loop-n-test.branch [
      | else-loop-n-test w ↦ none_between _ _ _ _ _ _ _ low high (ap (λ v. v.items) w.all-is) c.loop-n.invariant.0 c.loop-n.invariant.1 (search rules)
      | then-loop-n-test+in_ok-push+else-n-hi w ↦
          all_between _ _ _ _ _ c.loop-n.all.items _ low high (ap (λ v. v.items) w.all-is ∙ w.in_ok-push.ensures.items) c.loop-n.invariant.0 (search rules)
    ]
