use Rattle.std.proofs.Common.{◌≡◌, ℕ, ◌<◌, ◌≤◌, None, length}
use Rattle.octagons_sources.specs.Seen.{place_at}
use Rattle.octagons_pack.specs.Packs.{at, place_in}
use Rattle.octagons_pack.proofs.pack.places_in.Given as goal

abbrev pub invariant-loop-k : goal.invariant-loop-k
invariant-loop-k l = record {
  size : length l.places ≡ 24;
  before : (p : ℕ) → p < l.k → place_at l.places p ≡ place_in (at l.own p) l.other;
  past : (p : ℕ) → l.k ≤ p → place_at l.places p ≡ None;
}
