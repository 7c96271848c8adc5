use Rattle.std.proofs.Common.{◌≡◌, length}
use Rattle.csharp.specs.Trees.{csstmts_from}
use Rattle.csharp.specs.Meaning.{AtDefault, has}
use Rattle.walk_kept.proofs.marks.has_default.Given as goal

abbrev pub invariant-loop-item : goal.invariant-loop-item
invariant-loop-item l = record {
  same : has AtDefault (csstmts_from l.rest) ≡ has AtDefault (csstmts_from l.items);
}

abbrev pub decreases-loop-item : goal.decreases-loop-item
decreases-loop-item l = length l.rest
