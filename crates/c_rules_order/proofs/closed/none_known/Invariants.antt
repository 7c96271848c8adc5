use Rattle.std.proofs.Common.{◌≡◌, length}
use Rattle.std.specs.Prelude.{All}
use Rattle.c_rules_effects.specs.Joined.{nothing}
use Rattle.c_rules_order.proofs.closed.none_known.Given as goal

abbrev pub invariant-loop : goal.invariant-loop
invariant-loop l = (length l.known.items ≡ l.counter) × All (λ effects. effects ≡ nothing) l.known.items
