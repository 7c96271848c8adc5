use Rattle.std.proofs.Common.{map, ap, sym}
use Rattle.c_syntax.specs.Types.{ctype_tree}
use Rattle.c_syntax.specs.Program.{structdef_tree}
use Rattle.c_layout.specs.Layout.{in_table, space_by}
use Rattle.c_layout.specs.Kept.{element, element_count, element_space}
use Rattle.c_layout.proofs.Spaces.{kept_as, space_by-element}
use Rattle.c_layout.proofs.layout.member_room.Goals as goal

pub returns : goal.returns
returns c =
    let struct = in_table (map structdef_tree c.args.structs.now) in
    let ty = ctype_tree c.args.ty.now in
    let one = kept_as c.told_room.result (element_space struct (ctype_tree c.element_of.result.now)) (element_space struct (element ty)) c.told_room.ensures (ap (element_space struct) c.element_of.ensures) in
    let all = c.array_room.ensures (element_count ty) (element_space struct (element ty)) c.count_of.ensures one in
    kept_as c.array_room.result _ (space_by struct ty) all (sym (space_by-element struct ty))
