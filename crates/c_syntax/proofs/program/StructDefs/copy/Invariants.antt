use Rattle.std.proofs.Common.{◌≡◌, map, take}
use Rattle.c_syntax.specs.Program.{structdef_tree}
use Rattle.c_syntax.proofs.program.StructDefs.copy.Given as goal

abbrev pub invariant-loop-item : goal.invariant-loop-item
invariant-loop-item l = map structdef_tree l.items.items ≡ map structdef_tree (take l.item-index l.item-items)
