use Rattle.std.proofs.Common.{length}
use Rattle.report_alarms.specs.Named.{IsNextBut}
use Rattle.report_alarms.proofs.sets.next_name.Given as goal

abbrev pub invariant-each : goal.invariant-each
invariant-each l = IsNextBut l.fn.names l.left l.fn.from l.next

abbrev pub decreases-each : goal.decreases-each
decreases-each l = length l.left
