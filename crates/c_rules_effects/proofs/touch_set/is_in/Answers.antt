use Rattle.std.proofs.Common.{sym, subst}
use Rattle.std.specs.Prelude.{Contains}
use Rattle.std.proofs.lemmas.List.{take_all}
use Rattle.c_rules_effects.proofs.Sets.{had_here, not_yet}
use Rattle.c_rules_effects.proofs.touch_set.is_in.Goals as goal

pub loop-other-preserved : goal.loop-other-preserved
loop-other-preserved c =
    not_yet c.args.group.now c.loop-other.other-index c.other-item.result c.args.touch.now c.loop-other-test.true c.other-item.is c.loop-other.invariant
    c.if-is_same.ensures

pub returns-then-is_same : goal.returns-then-is_same
returns-then-is_same c =
    had_here c.args.group.now c.loop-other.other-index c.other-item.result c.args.touch.now c.loop-other-test.true c.other-item.is c.if-is_same.ensures

pub returns : goal.returns
returns c = λ h. c.loop-other.invariant
    (subst (λ xs. Contains xs c.args.touch.now) (sym (take_all c.loop-other.other-index c.args.group.now c.loop-other-test.false)) h)
