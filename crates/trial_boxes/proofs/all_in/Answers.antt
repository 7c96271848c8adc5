use Rattle.std.proofs.Common.{◌∙◌, sym, subst, refl, rules, pos, get_or, FitsSigned}
use Rattle.std.specs.Prelude.{All}
use Rattle.std.proofs.lemmas.List.{take_all}
use Rattle.std.proofs.lemmas.List.Elements.{All-more}
use Rattle.std.proofs.lemmas.Int.{to_z-of_z}
use Rattle.trial_boxes.specs.Boxes.{IsHeld}
use mir.Syntax.{w128}
use Rattle.trial_boxes.proofs.all_in.Goals as goal

pub returns-then-not-is_in : goal.returns-then-not-is_in
returns-then-not-is_in c =
    let n = get_or c.args.numbers.now c.loop-n.n-index (pos 0) in let fits : FitsSigned w128 n = search rules in
    (λ e. search rules, λ h. sym c.if-not-is_in.true ∙ c.is_in.ensures.1 (rw (to_z-of_z w128 n fits) (h c.loop-n.n-index (pos 0) c.loop-n-test.true)))

pub loop-n-preserved : goal.loop-n-preserved
loop-n-preserved c =
    let n = get_or c.args.numbers.now c.loop-n.n-index (pos 0) in let fits : FitsSigned w128 n = search rules in
    All-more (IsHeld c.args.r c.args.c) c.args.numbers.now c.loop-n.n-index (pos 0) c.loop-n-test.true c.loop-n.invariant
    (rw (← to_z-of_z w128 n fits) (c.is_in.ensures.0 c.if-not-is_in.false))

pub returns : goal.returns
returns c = (λ e. subst (All (IsHeld c.args.r c.args.c)) (take_all c.loop-n.n-index c.args.numbers.now c.loop-n-test.false) c.loop-n.invariant, λ h. refl)
