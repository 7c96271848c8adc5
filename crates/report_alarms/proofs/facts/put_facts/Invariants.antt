use Rattle.std.proofs.Common.{◌≡◌, ◌++◌, length, map}
use Rattle.std.specs.List.{flat_map}
use Rattle.c_syntax.specs.Types.{object_tree}
use Rattle.report_alarms.specs.ReportText.{fact_line}
use Rattle.report_alarms.proofs.facts.put_facts.Given as goal

abbrev pub invariant-each : goal.invariant-each
invariant-each l = l.text ++ flat_map (fact_line (map object_tree l.fn.objects)) l.left ≡ l.fn.text ++ flat_map (fact_line (map object_tree l.fn.objects)) l.fn.facts

abbrev pub decreases-each : goal.decreases-each
decreases-each l = length l.left
