use Rattle.std.specs.Prelude.{Some}
use Rattle.std.proofs.Common.{rules, ◌≡◌, ◌<◌, ◌/◌, ◌%◌, map, sym, subst, arith}
use Rattle.c_syntax.specs.Types.{ctype_tree}
use Rattle.c_syntax.specs.Program.{structdef_tree}
use Rattle.c_layout.specs.Kept.{element_count}
use Rattle.c_layout.specs.Scalars.{HaveSame}
use Rattle.c_layout.proofs.ScalarParts.{elements_same, elements_past, elements_empty, elements_incomplete, read_some, read_none}
use Rattle.c_layout.proofs.scalars.element_at.Goals as goal

pub returns-then-offset-size-clause-same : goal.returns-then-offset-size-clause-same
returns-then-offset-size-clause-same c =
    let structs = map structdef_tree c.args.structs.now in
    let ty = ctype_tree c.args.ty.now in
    let laid = c.requires.table.laid_out in
    let size = read_some structs laid ty _ _ _ c.requires.proper c.element_of-element.ensures c.told_room.ensures.size c.in-Some.is in
    let below : c.args.offset / c.in-Some.size < element_count ty = omega arith in
    subst (λ own. HaveSame structs ty c.args.offset own (c.args.offset % c.in-Some.size)) (sym c.element_of-element.ensures) (elements_same structs laid ty c.args.offset _ size below)

pub returns-else-offset-size-clause-none : goal.returns-else-offset-size-clause-none
returns-else-offset-size-clause-none c none =
    let structs = map structdef_tree c.args.structs.now in
    let ty = ctype_tree c.args.ty.now in
    let laid = c.requires.table.laid_out in
    let size = read_some structs laid ty _ _ _ c.requires.proper c.element_of-element.ensures c.told_room.ensures.size c.in-Some.is in
    elements_past structs laid ty c.args.offset _ _ c.requires.proper size c.count_of.ensures c.if-offset-size.false

pub returns-in-None-clause-none : goal.returns-in-None-clause-none
returns-in-None-clause-none c none =
    let structs = map structdef_tree c.args.structs.now in
    let ty = ctype_tree c.args.ty.now in
    let laid = c.requires.table.laid_out in
    elements_incomplete structs laid ty c.args.offset (read_none structs laid ty _ _ c.element_of-element.ensures c.told_room.ensures.size c.in-None.is)

pub returns-in-Some-eq0-clause-none : goal.returns-in-Some-eq0-clause-none
returns-in-Some-eq0-clause-none c none =
    let structs = map structdef_tree c.args.structs.now in
    let ty = ctype_tree c.args.ty.now in
    let laid = c.requires.table.laid_out in
    let zero : c.told_room.result.size ≡ Some 0 = search rules in
    let size = read_some structs laid ty _ _ 0 c.requires.proper c.element_of-element.ensures c.told_room.ensures.size zero in
    elements_empty structs laid ty c.args.offset size
