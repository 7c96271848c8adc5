use Rattle.std.proofs.Common.{◌≡◌}
use Rattle.c_rules_calls.specs.Search.{all_left, AreOrdered, IsUnderWay, KeepsDone}
use Rattle.c_rules_calls.proofs.search.search_from.Given as goal

abbrev pub invariant-loop : goal.invariant-loop
invariant-loop l =
    AreOrdered l.graph l.search.progress.items l.search.order.items × IsUnderWay l.graph l.search.progress.items l.search.root l.search.made
    × KeepsDone l.initial.search.progress.items l.search.progress.items × (l.search.root ≡ l.root)

abbrev pub decreases-loop : goal.decreases-loop
decreases-loop l = all_left l.graph l.search.progress.items
