use Rattle.std.proofs.Common.{◌≡◌, refl, sym, ap, ◌∙◌, subst}
use Rattle.std.specs.Prelude.{IfSome, option_map}
use Rattle.std.proofs.lemmas.Option.{IfSome_then}
use Rattle.c_syntax_written.specs.Written as written
use Rattle.c_syntax.specs.Types.{ctype_tree}
use Rattle.c_typing.specs.CurrentObject as objects
use Rattle.c_typing.specs.Inits as inits
use Rattle.c_typing.specs.World.{Refused}
use Rattle.c_check_names.specs.Views.{refusal_of}
use Rattle.c_check_fills.specs.RoomViews.{aggregates_tree, part_tree}
use Rattle.c_check_names.specs.Worlds.{world_of}
use Rattle.c_check_inits.specs.Forms.{TextInBraces, TextInPart, TextItem, OneTooMany}
use Rattle.c_check_inits.specs.Views.{filled_tree}
use Rattle.c_check_inits.proofs.Results.{by, at_none, at_some, if_so, if_not}
use Rattle.c_check_inits.proofs.texts.text_item.Goals as goal

pub returns-then-is_text_in_braces : goal.returns-then-is_text_in_braces
returns-then-is_text_in_braces c =
    let w = world_of c.args.world.now in
    let whole = ctype_tree c.args.whole.now in
    let done = filled_tree c.args.done in
    let text = c.args.text.now in
    by (TextInBraces w whole done.aggregates c.args.at text) (TextItem w c.args.is_static whole done c.args.at text) filled_tree w c.text_in_braces.result c.text_in_braces.ensures
    (λ o p. if_so (objects.is_text_in_braces done.aggregates) (TextInBraces w whole done.aggregates c.args.at text)
    (inits.AtPart (objects.next_part w.structs done.aggregates) (OneTooMany w whole (written.Strings c.args.at text))
    (λ part. TextInPart w c.args.is_static done.items (objects.after_part done.aggregates) part c.args.at text)) o
    (sym c.is_text_in_braces.ensures ∙ c.if-is_text_in_braces.true) p)

pub returns-in-None : goal.returns-in-None
returns-in-None c =
    let w = world_of c.args.world.now in
    let whole = ctype_tree c.args.whole.now in
    let done = filled_tree c.args.done in
    let text = c.args.text.now in
    IfSome_then (refusal_of c.too_many.result) (c.too_many.ensures w (written.Strings c.args.at text) refl c.text_value-typed.ensures)
    (λ r p. if_not (objects.is_text_in_braces done.aggregates) (TextInBraces w whole done.aggregates c.args.at text)
    (inits.AtPart (objects.next_part w.structs done.aggregates) (OneTooMany w whole (written.Strings c.args.at text))
    (λ part. TextInPart w c.args.is_static done.items (objects.after_part done.aggregates) part c.args.at text)) (Refused r)
    (sym c.is_text_in_braces.ensures ∙ c.if-is_text_in_braces.false)
    (at_none (objects.next_part w.structs done.aggregates) (OneTooMany w whole (written.Strings c.args.at text))
    (λ part. TextInPart w c.args.is_static done.items (objects.after_part done.aggregates) part c.args.at text) (Refused r)
    (sym (ap (option_map part_tree) c.in-None.is) ∙ c.in_ok-next.ensures.part) p))

pub returns-in-Some : goal.returns-in-Some
returns-in-Some c =
    let w = world_of c.args.world.now in
    let whole = ctype_tree c.args.whole.now in
    let done = filled_tree c.args.done in
    let text = c.args.text.now in
    let part = part_tree c.in-Some.part in
    let after = subst (λ n. IfSome n (λ _. aggregates_tree c.next_part.new.self ≡ objects.after_part done.aggregates)) c.in-Some.is c.in_ok-next.ensures.after in
    by (TextInPart w c.args.is_static done.items (aggregates_tree c.next_part.new.self) part c.args.at text) (TextItem w c.args.is_static whole done c.args.at text) filled_tree
    (world_of c.text_in_part.new.world) c.text_in_part.result c.text_in_part.ensures
    (λ o p. if_not (objects.is_text_in_braces done.aggregates) (TextInBraces w whole done.aggregates c.args.at text)
    (inits.AtPart (objects.next_part w.structs done.aggregates) (OneTooMany w whole (written.Strings c.args.at text))
    (λ part. TextInPart w c.args.is_static done.items (objects.after_part done.aggregates) part c.args.at text)) o
    (sym c.is_text_in_braces.ensures ∙ c.if-is_text_in_braces.false)
    (at_some (objects.next_part w.structs done.aggregates) (OneTooMany w whole (written.Strings c.args.at text))
    (λ part. TextInPart w c.args.is_static done.items (objects.after_part done.aggregates) part c.args.at text) o part
    (sym (ap (option_map part_tree) c.in-Some.is) ∙ c.in_ok-next.ensures.part)
    (subst (λ a. TextInPart w c.args.is_static done.items a part c.args.at text o) after p)))
