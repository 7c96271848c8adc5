use Rattle.std.proofs.Common.{◌<◌, map, length, ap, sym, ◌∙◌, arith}
use Rattle.std.specs.Prelude.{Some}
use Rattle.std.proofs.lemmas.Grind.{common_steps}
use Rattle.std.proofs.lemmas.List.{length-map}
use Rattle.c_syntax.specs.Program.{member_tree, structdef_tree}
use Rattle.c_layout.specs.Layout.{members_end, padded, spaces_by, in_table, struct_space}
use Rattle.c_layout.specs.Kept.{kept}
use Rattle.c_layout.proofs.Keeping.{kept_twice}
use Rattle.c_layout.proofs.Spaces.{kept_as, struct_space-full}
use Rattle.c_layout.proofs.layout.members_room.Goals as goal

pub returns : goal.returns
returns c =
    let struct = in_table (map structdef_tree c.args.structs.now) in
    let spaces = spaces_by struct (map member_tree c.args.members.now) in
    let some : 0 < length c.args.members.now = grind (arith, common_steps) in
    let full : 0 < length spaces = simp length-map some in
    let at = members_end spaces in
    let size = c.padded_end-size.ensures.value at (ap kept c.members_end-end.ensures.end ∙ kept_twice at)
    ∙ ap (λ align. kept (padded at align)) c.members_end-end.ensures.strictest in
    kept_as _ _ (struct_space spaces) (record { size = ap Some size; align = c.members_end-end.ensures.strictest }) (sym (struct_space-full spaces full))
