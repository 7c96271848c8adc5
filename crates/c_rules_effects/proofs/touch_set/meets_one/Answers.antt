use Rattle.std.proofs.Common.{◌||◌, sym, ap, ◌∙◌, get_or}
use Rattle.std.specs.List.{list_any}
use Rattle.std.proofs.lemmas.List.{take_all}
use Rattle.std.proofs.lemmas.List.Folds.{list_any_at, list_any_more}
use Rattle.c_rules_effects.specs.Met.{met}
use Rattle.c_rules_effects.proofs.touch_set.meets_one.Goals as goal

pub loop-other-preserved : goal.loop-other-preserved
loop-other-preserved c =
    let p = met c.args.taken.now c.args.touch.now in
    let group = c.args.group.now in
    let i = c.loop-other.other-index in
    list_any_more p group i c.other-item.result c.loop-other-test.true ∙ ap (λ b. b || p (get_or group i c.other-item.result)) c.loop-other.invariant
    ∙ ap p (sym c.other-item.is) ∙ sym c.is_met.ensures ∙ c.if-is_met.false

pub returns-then-is_met : goal.returns-then-is_met
returns-then-is_met c =
    let p = met c.args.taken.now c.args.touch.now in
    sym (list_any_at p c.args.group.now c.loop-other.other-index c.other-item.result c.loop-other-test.true
    (ap p (sym c.other-item.is) ∙ sym c.is_met.ensures ∙ c.if-is_met.true))

pub returns : goal.returns
returns c =
    let p = met c.args.taken.now c.args.touch.now in
    sym (ap (list_any p) (sym (take_all c.loop-other.other-index c.args.group.now c.loop-other-test.false)) ∙ c.loop-other.invariant)
