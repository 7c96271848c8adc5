use Rattle.std.proofs.Common.{◌≡◌, map, take}
use Rattle.c_syntax.specs.Types.{object_tree}
use Rattle.c_syntax.proofs.program.Objects.copy.Given as goal

abbrev pub invariant-loop-item : goal.invariant-loop-item
invariant-loop-item l = map object_tree l.items.items ≡ map object_tree (take l.item-index l.item-items)
