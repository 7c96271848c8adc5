use Rattle.std.proofs.Common.{◌≡◌, map, drop}
use Rattle.c_syntax.specs.Program.{member_tree}
use Rattle.c_layout.specs.Layout.{offset_named}
use Rattle.c_layout.proofs.layout.offset_of.Given as goal

abbrev pub invariant-loop-member : goal.invariant-loop-member
invariant-loop-member l = offset_named (map member_tree l.members) l.name ≡ offset_named (drop l.member-index (map member_tree l.members)) l.name
