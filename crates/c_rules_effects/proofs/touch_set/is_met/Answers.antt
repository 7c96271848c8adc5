use Rattle.c_rules_effects.proofs.Tests.{test_is}
use Rattle.c_rules_effects.proofs.touch_set.is_met.Goals as goal

pub returns : goal.returns
returns c = test_is c.meet.result c.args.taken.now c.args.a.now c.args.b.now c.meet.ensures
