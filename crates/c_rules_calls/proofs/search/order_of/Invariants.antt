use Rattle.std.proofs.Common.{◌≡◌, ◌<◌, ℕ, []}
use Rattle.c_rules_calls.specs.Graph.{IsDefined}
use Rattle.c_rules_calls.specs.Search.{AreOrdered, IsDone, NoneIsOpen}
use Rattle.c_rules_calls.proofs.search.order_of.Given as goal

abbrev pub invariant-loop-root : goal.invariant-loop-root
invariant-loop-root l =
    AreOrdered l.graph l.search.progress.items l.search.order.items × NoneIsOpen l.search.progress.items × (l.search.made ≡ [])
    × ((f : ℕ) → f < l.root → IsDefined l.graph f → IsDone l.search.progress.items f)
