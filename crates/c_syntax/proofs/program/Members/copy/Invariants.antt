use Rattle.std.proofs.Common.{◌≡◌, map, take}
use Rattle.c_syntax.specs.Program.{member_tree}
use Rattle.c_syntax.proofs.program.Members.copy.Given as goal

abbrev pub invariant-loop-item : goal.invariant-loop-item
invariant-loop-item l = map member_tree l.items.items ≡ map member_tree (take l.item-index l.item-items)
