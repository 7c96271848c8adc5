use Rattle.std.proofs.Common.{◌≡◌, ℕ, false, length}
use Rattle.csharp.specs.Trees.{csstmts_from}
use Rattle.csharp.specs.Meaning.{AtLabel, has}
use Rattle.walk_kept.proofs.marks.has_label.Given as goal

abbrev pub invariant-loop-item : goal.invariant-loop-item
invariant-loop-item l = record {
  none_before : (k : ℕ) → has (AtLabel k) (csstmts_from l.rest) ≡ false → has (AtLabel k) (csstmts_from l.items) ≡ false;
}

abbrev pub decreases-loop-item : goal.decreases-loop-item
decreases-loop-item l = length l.rest
