use Rattle.std.proofs.Common.{ℕ, ◌<◌}
use Rattle.octagons_sources.specs.Sources.{IsWide, source_at}
use Rattle.octagons_sources.proofs.drawing.all_wide.Given as goal

abbrev pub invariant-loop-source : goal.invariant-loop-source
invariant-loop-source l = (k : ℕ) → k < l.source-index → IsWide (source_at l.from k)
