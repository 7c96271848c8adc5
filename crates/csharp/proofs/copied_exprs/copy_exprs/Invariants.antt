use Rattle.std.proofs.Common.{◌≡◌, map, take}
use Rattle.csharp.specs.Trees.{csexpr_tree}
use Rattle.csharp.proofs.copied_exprs.copy_exprs.Given as goal

abbrev pub invariant-loop-item : goal.invariant-loop-item
invariant-loop-item l = map csexpr_tree l.items.items ≡ map csexpr_tree (take l.item-index l.item-items)
