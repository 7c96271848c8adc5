use Rattle.std.proofs.Common.{◌≡◌, ℕ, ℤ, List, ◌<◌, ◌≤◌, length}
use Rattle.ext_int.specs.Valuation.{value_at}
use Rattle.octagons_sources.specs.Sources.{IsDrawn, source_at}
use Rattle.octagons_pack.specs.Packs.{picked, at}
use Rattle.octagons_pack.specs.Changes.{Changes}
use Rattle.octagons_pack.proofs.changes.sources.Given as goal

abbrev pub invariant-loop-k : goal.invariant-loop-k
invariant-loop-k l = record {
  size : length l.from ≡ 24;
  before : (v w : List ℤ) → Changes l.change l.old v w → (p : ℕ) → p < l.k → IsDrawn (source_at l.from p) (picked v l.old) (value_at w (at l.pack p));
}
