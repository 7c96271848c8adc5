use Rattle.std.proofs.Common.{◌≡◌, ◌++◌, ◌+◌, ◌||◌, ℕ, List, false, length, map}
use Rattle.c_syntax.specs.Types.{object_tree}
use Rattle.report_alarms.specs.ReportText.{joined_on, named_from, is_some_word}
use Rattle.report_alarms.proofs.sets.put_named.Given as goal

abbrev pub invariant-each : goal.invariant-each
invariant-each l =
    ((rest : List (List ℕ)) → l.text ++ joined_on l.some (named_from l.fn.names l.from (map object_tree l.left) ++ rest)
    ≡ l.fn.text ++ joined_on false (named_from l.fn.names 0 (map object_tree l.fn.objects) ++ rest))
    × ((l.some || is_some_word (named_from l.fn.names l.from (map object_tree l.left))) ≡ is_some_word (named_from l.fn.names 0 (map object_tree l.fn.objects)))
    × (l.from + length l.left ≡ length l.fn.objects)

abbrev pub decreases-each : goal.decreases-each
decreases-each l = length l.left
