use Rattle.c_rules_order.proofs.Sidewise.{more_joined}
use Rattle.c_rules_order.proofs.side.all_joined.Goals as goal

pub loop-side-preserved : goal.loop-side-preserved
loop-side-preserved c =
    more_joined c.args.sides.now c.loop-side.side-index c.side-item.result c.loop-side.all c.join.new.self c.loop-side-test.true c.side-item.is c.loop-side.invariant
    c.in_ok-join.ensures
