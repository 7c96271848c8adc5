use Rattle.std.proofs.Common.{◌≡◌, ◌++◌, length}
use Rattle.std.specs.List.{flat_map}
use Rattle.report_alarms.specs.ReportText.{alarm_text}
use Rattle.report_alarms.specs.Sources.{told_by}
use Rattle.report_alarms.proofs.alarms.put_each.Given as goal

abbrev pub invariant-each : goal.invariant-each
invariant-each l = l.text ++ flat_map (alarm_text l.fn.name (told_by l.fn.source) l.fn.state) l.left ≡ l.fn.text ++ flat_map (alarm_text l.fn.name (told_by l.fn.source) l.fn.state) l.fn.alarms

abbrev pub decreases-each : goal.decreases-each
decreases-each l = length l.left
