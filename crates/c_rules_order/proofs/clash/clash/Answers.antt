use Rattle.c_rules_order.proofs.Sidewise.{clash_so}
use Rattle.c_rules_order.proofs.clash.clash.Goals as goal

pub returns : goal.returns
returns c =
    clash_so c.args.known.now c.args.left.now c.args.right.now c.in_ok-effects.effects c.clash_with.result c.in_ok-effects.ensures.reads c.in_ok-effects.ensures.writes
    c.clash_with.ensures
