use Rattle.std.proofs.Common.{arith}
use Rattle.c_rules_calls.proofs.Firsts.{all_seen}
use Rattle.c_rules_calls.proofs.undefined.undefined_call.Goals as goal

pub returns : goal.returns
returns c = all_seen c.args.graph.now c.loop-function.function (omega (arith, c.loop-function-test.false)) c.loop-function.found c.loop-function.invariant
