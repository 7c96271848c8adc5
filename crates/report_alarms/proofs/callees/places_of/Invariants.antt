use Rattle.std.proofs.Common.{◌≡◌, ◌-◌, ◌≤◌, ◌<◌, ℕ, None, length}
use Rattle.c_syntax_written.specs.declared.place.Pos.{Pos}
use Rattle.report_alarms.specs.Found.{found}
use Rattle.report_alarms.specs.Told.{called_from}
use Rattle.report_alarms.proofs.callees.places_of.Given as goal

abbrev pub invariant-each : goal.invariant-each
invariant-each l = (l.caller ≤ length l.fn.graph)
    × ((g : ℕ) (at : Pos) → g < l.caller → found l.places g at ≡ called_from l.fn.graph g at)
    × ((g : ℕ) (at : Pos) → l.caller ≤ g → found l.places g at ≡ None)

abbrev pub decreases-each : goal.decreases-each
decreases-each l = length l.fn.graph - l.caller
