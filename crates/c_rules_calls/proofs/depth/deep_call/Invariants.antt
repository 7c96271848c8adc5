use Rattle.std.proofs.Common.{◌<◌, take, get_or}
use Rattle.std.specs.Prelude.{All}
use Rattle.c_rules_calls.proofs.depth.deep_call.Given as goal

abbrev pub invariant-loop-call : goal.invariant-loop-call
invariant-loop-call l = All (λ call. get_or l.depths call.callee 0 < l.depth) (take l.call-index l.calls)
