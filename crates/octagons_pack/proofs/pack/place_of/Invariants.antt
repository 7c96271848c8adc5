use Rattle.std.proofs.Common.{◌≡◌, ℕ, ◌<◌}
use Rattle.octagons_pack.specs.Packs.{at}
use Rattle.octagons_pack.proofs.pack.place_of.Given as goal

abbrev pub invariant-loop-k : goal.invariant-loop-k
invariant-loop-k l = (p : ℕ) → p < l.k → at l.pack p ≡ l.x → ⊥
