use Rattle.std.proofs.Common.{◌≡◌, drop}
use Rattle.csharp.specs.Trees.{csstmts_from}
use Rattle.csharp.specs.Meaning.{has}
use Rattle.csharp_exec.specs.Told.{mark_of}
use Rattle.csharp_exec.proofs.marks.has.Given as goal

abbrev pub invariant-loop-item : goal.invariant-loop-item
invariant-loop-item l = has (mark_of l.mark) (csstmts_from (drop l.item-index l.items)) ≡ has (mark_of l.mark) (csstmts_from l.items)
