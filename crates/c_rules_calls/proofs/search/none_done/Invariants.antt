use Rattle.std.proofs.Common.{◌≡◌, length}
use Rattle.std.specs.Prelude.{All}
use Rattle.c_rules_calls.specs.declared.search.Progress.TheVariants.{New}
use Rattle.c_rules_calls.proofs.search.none_done.Given as goal

abbrev pub invariant-loop : goal.invariant-loop
invariant-loop l = (length l.progress.items ≡ l.counter) × All (λ p. p ≡ New) l.progress.items
