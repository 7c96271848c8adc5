use Rattle.std.proofs.Common.{◌<◌, ◌≤◌, max, map, take, length, ap, sym, ◌∙◌, arith}
use Rattle.std.specs.Prelude.{fold}
use Rattle.c_syntax.specs.Types.{ctype_tree}
use Rattle.c_syntax.specs.Program.{member_tree, structdef_tree}
use Rattle.c_layout.specs.Layout.{member_end, space_by, spaces_by, in_table, strictest}
use Rattle.c_layout.specs.Kept.{kept}
use Rattle.c_layout.proofs.Keeping.{kept_twice}
use Rattle.c_layout.proofs.Spaces.{fold_members, take_spaces}
use Rattle.c_layout.proofs.layout.members_end.Goals as goal

pub loop-member-preserved : goal.loop-member-preserved
loop-member-preserved c =
    let struct = in_table (map structdef_tree c.args.structs.now) in
    let members = c.args.members.now in
    let i = c.loop-member.member-index in
    let m = c.member-item.result in
    let index : i < length members = omega arith in
    let before = take i (spaces_by struct (map member_tree members)) in
    let at = fold member_end 0 before in
    let from = ap kept c.loop-member.invariant.end ∙ kept_twice at in
    record {
      end = c.end_after-end.ensures at (space_by struct (ctype_tree m.ty)) from c.member_room-room.ensures
          ∙ ap kept (sym (fold_members member_end 0 struct members i m index c.member-item.is));
      align = c.max-align.ensures
          ∙ ap (λ align. max align c.member_room-room.result.align) c.loop-member.invariant.align
          ∙ ap (max (fold (λ align space. max align space.align) 1 before)) c.member_room-room.ensures.align
          ∙ sym (fold_members (λ align space. max align space.align) 1 struct members i m index c.member-item.is);
    }

pub returns-clause-end : goal.returns-clause-end
returns-clause-end c =
    let struct = in_table (map structdef_tree c.args.structs.now) in
    let done : length c.args.members.now ≤ c.loop-member.member-index = omega arith in
    c.loop-member.invariant.end ∙ ap (λ spaces. kept (fold member_end 0 spaces)) (take_spaces struct c.args.members.now c.loop-member.member-index done)

pub returns-clause-strictest : goal.returns-clause-strictest
returns-clause-strictest c =
    let struct = in_table (map structdef_tree c.args.structs.now) in
    let done : length c.args.members.now ≤ c.loop-member.member-index = omega arith in
    c.loop-member.invariant.align ∙ ap strictest (take_spaces struct c.args.members.now c.loop-member.member-index done)
