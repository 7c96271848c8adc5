use Rattle.std.proofs.Common.{◌||◌, sym, ap, ◌∙◌, get_or}
use Rattle.std.specs.List.{list_any}
use Rattle.std.proofs.lemmas.List.{take_all}
use Rattle.std.proofs.lemmas.List.Folds.{list_any_at, list_any_more}
use Rattle.c_rules_effects.specs.declared.touch.Touch.{Touch}
use Rattle.c_rules_effects.specs.Met.{met}
use Rattle.c_rules_order.proofs.clash.one_met.Goals as goal

pub loop-write-preserved : goal.loop-write-preserved
loop-write-preserved c = λ held h.
    let writes = c.args.writes.now in
    let i = c.loop-write.write-index in
    list_any_more (λ (s : Touch). list_any (met c.args.taken.now s) held) writes i c.write-item.result c.loop-write-test.true
    ∙ ap (λ b. b || list_any (met c.args.taken.now (get_or writes i c.write-item.result)) held) (c.loop-write.invariant held h)
    ∙ ap (λ s. list_any (met c.args.taken.now s) held) (sym c.write-item.is) ∙ sym (c.meets.ensures held h) ∙ c.if-meets.false

pub returns-then-meets : goal.returns-then-meets
returns-then-meets c = λ held h.
    sym (list_any_at (λ (s : Touch). list_any (met c.args.taken.now s) held) c.args.writes.now c.loop-write.write-index c.write-item.result c.loop-write-test.true
    (ap (λ s. list_any (met c.args.taken.now s) held) (sym c.write-item.is) ∙ sym (c.meets.ensures held h) ∙ c.if-meets.true))

pub returns : goal.returns
returns c = λ held h.
    sym (ap (list_any (λ (s : Touch). list_any (met c.args.taken.now s) held)) (sym
    (take_all c.loop-write.write-index c.args.writes.now c.loop-write-test.false))
    ∙ c.loop-write.invariant held h)
