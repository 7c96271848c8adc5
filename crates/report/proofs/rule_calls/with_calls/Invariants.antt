use Rattle.std.proofs.Common.{◌≡◌, ◌++◌, length, map}
use Rattle.c_rules_calls.specs.Placed.{placed}
use Rattle.report.specs.RuleText.{calls_after}
use Rattle.report.proofs.rule_calls.with_calls.Given as goal

-- what is left makes the whole
abbrev pub invariant-each : goal.invariant-each
invariant-each l = l.text.items ++ calls_after l.names (map placed l.left) ≡ l.fn.text.items ++ calls_after l.fn.names (map placed l.fn.calls)

abbrev pub decreases-each : goal.decreases-each
decreases-each l = length l.left
