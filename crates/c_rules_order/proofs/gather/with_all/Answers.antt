use Rattle.std.proofs.Common.{◌⊎◌, subst}
use Rattle.std.specs.Prelude.{◌↔◌, Contains}
use Rattle.std.proofs.lemmas.List.{take_all}
use Rattle.c_rules_order.proofs.Gathering.{more_all}
use Rattle.c_rules_order.proofs.gather.with_all.Goals as goal

pub loop-touch-preserved : goal.loop-touch-preserved
loop-touch-preserved c =
    more_all c.args.list c.args.touches.now c.loop-touch.more c.in_ok-more.more c.loop-touch.touch-index c.touch-item.result c.loop-touch-test.true c.touch-item.is
    c.loop-touch.invariant c.in_ok-more.ensures

pub returns : goal.returns
returns c = λ t.
    subst (λ xs. Contains c.loop-touch.more t ↔ (Contains c.args.list t ⊎ Contains xs t)) (take_all c.loop-touch.touch-index c.args.touches.now c.loop-touch-test.false)
    (c.loop-touch.invariant t)
