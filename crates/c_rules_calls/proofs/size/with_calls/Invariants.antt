use Rattle.std.proofs.Common.{◌≡◌, ◌+◌, take, get_or}
use Rattle.std.specs.List.{sum_by}
use Rattle.c_rules_calls.specs.declared.call.Call.{Call}
use Rattle.c_rules_calls.specs.Inlined.{ended}
use Rattle.c_rules_calls.proofs.size.with_calls.Given as goal

abbrev pub invariant-loop-call : goal.invariant-loop-call
invariant-loop-call l = l.all ≡ ended (l.size + sum_by (λ (call : Call). get_or l.sizes call.callee 0) (take l.call-index l.calls))
