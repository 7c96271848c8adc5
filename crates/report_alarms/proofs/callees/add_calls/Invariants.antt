use Rattle.std.proofs.Common.{◌≡◌, ℕ, length, map}
use Rattle.std.specs.Option.{option_or}
use Rattle.c_syntax_written.specs.declared.place.Pos.{Pos}
use Rattle.c_rules_calls.specs.Placed.{placed}
use Rattle.report_alarms.specs.Found.{callee_in, found}
use Rattle.report_alarms.proofs.callees.add_calls.Given as goal

abbrev pub invariant-each : goal.invariant-each
invariant-each l = (g : ℕ) (at : Pos) → option_or (found l.places g at) (callee_in l.fn.caller (map placed l.left) g at)
    ≡ option_or (found l.fn.places g at) (callee_in l.fn.caller (map placed l.fn.calls) g at)

abbrev pub decreases-each : goal.decreases-each
decreases-each l = length l.left
