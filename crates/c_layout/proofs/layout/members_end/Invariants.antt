use Rattle.std.proofs.Common.{◌≡◌, max, map, take}
use Rattle.std.specs.Prelude.{fold}
use Rattle.c_syntax.specs.Program.{member_tree, structdef_tree}
use Rattle.c_layout.specs.Layout.{member_end, spaces_by, in_table}
use Rattle.c_layout.specs.Kept.{kept}
use Rattle.c_layout.proofs.layout.members_end.Given as goal

abbrev pub invariant-loop-member : goal.invariant-loop-member
invariant-loop-member l = record {
  end : l.end ≡ kept (fold member_end 0 (take l.member-index (spaces_by (in_table (map structdef_tree l.structs)) (map member_tree l.members))));
  align : l.align ≡ fold (λ align space. max align space.align) 1 (take l.member-index (spaces_by (in_table (map structdef_tree l.structs)) (map member_tree l.members)));
}
