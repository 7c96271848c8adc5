use Rattle.std.proofs.Common.{◌≡◌, sym, ap, ◌∙◌, subst}
use Rattle.std.specs.Prelude.{IfSome, option_map}
use Rattle.std.proofs.lemmas.Option.{IfSome_then}
use Rattle.c_syntax_written.specs.Written.{expr_tree}
use Rattle.c_syntax.specs.Types.{ctype_tree}
use Rattle.c_typing.specs.CurrentObject as objects
use Rattle.c_typing.specs.World.{Refused}
use Rattle.c_check_names.specs.Views.{refusal_of}
use Rattle.c_check_fills.specs.RoomViews.{aggregates_tree, part_tree}
use Rattle.c_check_names.specs.Worlds.{world_of}
use Rattle.c_check_inits.specs.Forms.{ValueInPart, ValueItem, OneTooMany}
use Rattle.c_check_inits.specs.Views.{filled_tree}
use Rattle.c_check_inits.proofs.Results.{by, at_none, at_some}
use Rattle.c_check_inits.proofs.values.value_item.Goals as goal

pub returns-in-None : goal.returns-in-None
returns-in-None c =
    let w = world_of c.args.world.now in
    let whole = ctype_tree c.args.whole.now in
    let done = filled_tree c.args.done in
    let e = expr_tree c.args.e.now in
    IfSome_then (refusal_of c.too_many.result) (c.too_many.ensures w e c.pos.ensures c.value-typed.ensures)
    (λ r p. at_none (objects.next_part w.structs done.aggregates) (OneTooMany w whole e)
    (λ part. ValueInPart w c.args.is_static done.items (objects.after_part done.aggregates) part e) (Refused r)
    (sym (ap (option_map part_tree) c.in-None.is) ∙ c.in_ok-next.ensures.part) p)

pub returns-in-Some : goal.returns-in-Some
returns-in-Some c =
    let w = world_of c.args.world.now in
    let whole = ctype_tree c.args.whole.now in
    let done = filled_tree c.args.done in
    let e = expr_tree c.args.e.now in
    let part = part_tree c.in-Some.part in
    let after = subst (λ n. IfSome n (λ _. aggregates_tree c.next_part.new.self ≡ objects.after_part done.aggregates)) c.in-Some.is c.in_ok-next.ensures.after in
    by (ValueInPart w c.args.is_static done.items (aggregates_tree c.next_part.new.self) part e) (ValueItem w c.args.is_static whole done e) filled_tree
    (world_of c.value_in_part.new.world) c.value_in_part.result c.value_in_part.ensures
    (λ o p. at_some (objects.next_part w.structs done.aggregates) (OneTooMany w whole e)
    (λ part. ValueInPart w c.args.is_static done.items (objects.after_part done.aggregates) part e) o part
    (sym (ap (option_map part_tree) c.in-Some.is) ∙ c.in_ok-next.ensures.part)
    (subst (λ a. ValueInPart w c.args.is_static done.items a part e o) after p))
