use Rattle.c_rules_order.proofs.FirstFound.{more_each}
use Rattle.c_rules_order.proofs.compare.compare_with.Goals as goal

pub loop-before-preserved : goal.loop-before-preserved
loop-before-preserved c =
    more_each c.args.known.now c.args.pos c.args.found.now c.loop-before.found c.compare.new.found c.args.earlier.now c.loop-before.before-index c.before-item.result
    c.args.side.now c.loop-before-test.true c.before-item.is c.loop-before.invariant c.in_ok-compare.ensures
