use Rattle.std.proofs.Common.{◌≡◌, ◌++◌, Some, length}
use Rattle.report_alarms.specs.ReportText.{chain_text}
use Rattle.report_alarms.specs.Sources.{told_by}
use Rattle.report_alarms.proofs.alarms.put_chain.Given as goal

abbrev pub invariant-each : goal.invariant-each
invariant-each l = l.text ++ chain_text (told_by l.fn.source).names (told_by l.fn.source).graph l.caller l.left
    ≡ l.fn.text ++ chain_text (told_by l.fn.source).names (told_by l.fn.source).graph (Some l.fn.source.main) l.fn.chain

abbrev pub decreases-each : goal.decreases-each
decreases-each l = length l.left
