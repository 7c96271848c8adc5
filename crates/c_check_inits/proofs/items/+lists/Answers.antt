-- The ways out of the walk over lists.
use Rattle.std.proofs.Common.{◌≡◌, sym, ap, ◌∙◌, subst, ◌<◌, [], refl, get_or, arith}
use Rattle.std.specs.Prelude.{IfSome, option_map}
use Rattle.std.proofs.lemmas.Option.{IfSome_then}
use Rattle.c_syntax_written.specs.WrittenDecl as decls
use Rattle.c_syntax_written.specs.WrittenDecl.{init_tree, inits_from, inits_tree}
use Rattle.c_syntax_written.specs.Sizes.{init_size, inits_size}
use Rattle.c_syntax_written.proofs.Sizes.{inits_item}
use Rattle.c_syntax_written.proofs.WrittenDeclTrees.{init_braces, init_value}
use Rattle.c_syntax.specs.Types.{ctype_tree}
use Rattle.c_typing.specs.CurrentObject as objects
use Rattle.c_typing.specs.Inits as inits
use Rattle.c_typing.specs.Inits.{TypesItems}
use Rattle.c_typing.specs.World.{Typed, Refused, Outcome, Is, goes_on, stops}
use Rattle.c_check_names.specs.Views.{Answers, refusal_of}
use Rattle.c_check_fills.specs.RoomViews.{aggregates_tree, part_tree}
use Rattle.c_check_names.specs.Worlds.{world_of}
use Rattle.c_check_inits.specs.Forms.{ItemForm, ListInBraces, ListInPart, ListItem}
use Rattle.c_check_inits.specs.Views.{filled_tree}
use Rattle.c_check_inits.proofs.Lists.{next_item, last_item}
use Rattle.c_check_inits.proofs.Results.{by, at_none, at_some, if_so, if_not}
use Rattle.c_check_inits.proofs.items.+lists.Goals as goal

pub list_items-one_item-requires : goal.list_items-one_item-requires
list_items-one_item-requires t c =
    let slice : inits_size (inits_from c.as_slice-items.result.now) ≡ inits_size (inits_tree c.args.list.now) = ap inits_size c.as_slice-items.ensures in
    let one : init_size (init_tree c.item-item.result) ≡ init_size (init_tree (get_or c.as_slice-items.result.now c.each.item-index c.item-item.result))
    = ap (λ x. init_size (init_tree x)) c.item-item.is in
    let below : init_size (init_tree (get_or c.as_slice-items.result.now c.each.item-index c.item-item.result)) < inits_size (inits_from c.as_slice-items.result.now)
    = inits_item c.as_slice-items.result.now c.each.item-index c.item-item.result c.each-test.true in
    (omega arith, tt)

pub list_items-each-init : goal.list_items-each-init
list_items-each-init t c = λ o p.
    subst (λ list. TypesItems (world_of c.args.world.now) c.args.is_static (ctype_tree c.args.whole.now) (filled_tree c.args.before) list o) c.as_slice-items.ensures p

pub list_items-each-preserved : goal.list_items-each-preserved
list_items-each-preserved t c = λ o p.
    c.each.invariant o (next_item (world_of c.each.world) c.args.is_static (ctype_tree c.args.whole.now) (filled_tree c.each.done) c.as_slice-items.result.now
    c.each.item-index c.item-item.result o c.item-item.is c.each-test.true (goes_on c.in-Ok.ensures p))

pub list_items-returns-in-Err : goal.list_items-returns-in-Err
list_items-returns-in-Err t c =
    IfSome_then (refusal_of c.in-Err.error) c.in-Err.ensures (λ r p.
    c.each.invariant (Refused r) (next_item (world_of c.each.world) c.args.is_static (ctype_tree c.args.whole.now) (filled_tree c.each.done) c.as_slice-items.result.now
    c.each.item-index c.item-item.result (Refused r) c.item-item.is c.each-test.true (stops p)))

pub list_items-returns : goal.list_items-returns
list_items-returns t c =
    c.each.invariant (Typed (filled_tree c.each.done) (world_of c.each.world))
    (last_item (world_of c.each.world) c.args.is_static (ctype_tree c.args.whole.now) (filled_tree c.each.done) c.as_slice-items.result.now c.each.item-index
    (Typed (filled_tree c.each.done) (world_of c.each.world)) c.each-test.false refl)

pub one_item-returns-in-Braces : goal.one_item-returns-in-Braces
one_item-returns-in-Braces t c =
    subst (λ item. Answers (ItemForm (world_of c.args.world.now) c.args.is_static (ctype_tree c.args.whole.now) (filled_tree c.args.done) item) filled_tree
    (world_of c.list_item.new.world) c.list_item.result) (sym (ap init_tree c.in-Braces.is ∙ init_braces c.in-Braces.pos c.in-Braces.items)) c.list_item.ensures

pub one_item-returns-in-Value : goal.one_item-returns-in-Value
one_item-returns-in-Value t c =
    subst (λ item. Answers (ItemForm (world_of c.args.world.now) c.args.is_static (ctype_tree c.args.whole.now) (filled_tree c.args.done) item) filled_tree
    (world_of c.expression_item.new.world) c.expression_item.result) (sym (ap init_tree c.in-Value.is ∙ init_value c.in-Value.value)) c.expression_item.ensures

pub one_item-list_item-requires : goal.one_item-list_item-requires
one_item-list_item-requires t c =
    let size : init_size (init_tree c.args.item.now) ≡ init_size (decls.Braces c.in-Braces.pos (inits_tree c.in-Braces.items))
    = ap init_size (ap init_tree c.in-Braces.is ∙ init_braces c.in-Braces.pos c.in-Braces.items) in
    (omega arith, tt)

pub list_item-returns-in-None : goal.list_item-returns-in-None
list_item-returns-in-None t c =
    let w = world_of c.args.world.now in
    let whole = ctype_tree c.args.whole.now in
    let done = filled_tree c.args.done in
    let list = inits_tree c.args.list.now in
    IfSome_then (refusal_of c.excess.result) c.excess.ensures (λ r p.
    at_none (objects.next_part w.structs done.aggregates) (Is (Refused (inits.excess w whole c.args.at)))
    (λ part. inits.Either (objects.is_scalar_in_braces done.aggregates) (ListInBraces w whole c.args.at list)
    (ListInPart w c.args.is_static done.items (objects.after_part done.aggregates) part list)) (Refused r)
    (sym (ap (option_map part_tree) c.in-None.is) ∙ c.in_ok-next.ensures.part) (ap Refused p))

pub list_item-returns-then-is_scalar : goal.list_item-returns-then-is_scalar
list_item-returns-then-is_scalar t c =
    let w = world_of c.args.world.now in
    let whole = ctype_tree c.args.whole.now in
    let done = filled_tree c.args.done in
    let list = inits_tree c.args.list.now in
    IfSome_then (refusal_of c.list_in_braces.result) c.list_in_braces.ensures (λ r p.
    at_some (objects.next_part w.structs done.aggregates) (Is (Refused (inits.excess w whole c.args.at)))
    (λ part. inits.Either (objects.is_scalar_in_braces done.aggregates) (ListInBraces w whole c.args.at list)
    (ListInPart w c.args.is_static done.items (objects.after_part done.aggregates) part list)) (Refused r) (part_tree c.in-Some.part)
    (sym (ap (option_map part_tree) c.in-Some.is) ∙ c.in_ok-next.ensures.part)
    (if_so (objects.is_scalar_in_braces done.aggregates) (ListInBraces w whole c.args.at list)
    (ListInPart w c.args.is_static done.items (objects.after_part done.aggregates) (part_tree c.in-Some.part) list) (Refused r)
    (sym c.is_scalar_in_braces-is_scalar.ensures ∙ c.if-is_scalar.true) p))

pub list_item-returns-else-is_scalar : goal.list_item-returns-else-is_scalar
list_item-returns-else-is_scalar t c =
    let w = world_of c.args.world.now in
    let whole = ctype_tree c.args.whole.now in
    let done = filled_tree c.args.done in
    let list = inits_tree c.args.list.now in
    let part = part_tree c.in-Some.part in
    let after = subst (λ n. IfSome n (λ _. aggregates_tree c.next_part.new.self ≡ objects.after_part done.aggregates)) c.in-Some.is c.in_ok-next.ensures.after in
    by (ListInPart w c.args.is_static done.items (aggregates_tree c.next_part.new.self) part list) (ListItem w c.args.is_static whole done c.args.at list) filled_tree
    (world_of c.list_in_part.new.world) c.list_in_part.result c.list_in_part.ensures (λ o p.
    at_some (objects.next_part w.structs done.aggregates) (Is (Refused (inits.excess w whole c.args.at)))
    (λ part. inits.Either (objects.is_scalar_in_braces done.aggregates) (ListInBraces w whole c.args.at list)
    (ListInPart w c.args.is_static done.items (objects.after_part done.aggregates) part list)) o part
    (sym (ap (option_map part_tree) c.in-Some.is) ∙ c.in_ok-next.ensures.part)
    (if_not (objects.is_scalar_in_braces done.aggregates) (ListInBraces w whole c.args.at list)
    (ListInPart w c.args.is_static done.items (objects.after_part done.aggregates) part list) o
    (sym c.is_scalar_in_braces-is_scalar.ensures ∙ c.if-is_scalar.false)
    (subst (λ a. ListInPart w c.args.is_static done.items a part list o) after p)))

pub list_in_part-returns-in-Err : goal.list_in_part-returns-in-Err
list_in_part-returns-in-Err t c =
    let w = world_of c.args.world.now in
    let part = part_tree c.args.part in
    let begun = c.nothing_filled-nothing.ensures ∙ ap (λ f. inits.filled_so [] (objects.in_braces f)) c.of-frame.ensures in
    let so : (o : Outcome inits.Filled) → TypesItems w c.args.is_static (ctype_tree c.in_ok-whole.whole) (filled_tree c.nothing_filled-nothing.result) (inits_tree c.args.list.now) o
    → TypesItems w c.args.is_static part.ty (inits.filled_so [] (objects.in_braces (objects.frame_of w.structs part))) (inits_tree c.args.list.now) o
    = λ o p. subst (λ ty. TypesItems w c.args.is_static ty (inits.filled_so [] (objects.in_braces (objects.frame_of w.structs part))) (inits_tree c.args.list.now) o) c.in_ok-whole.ensures
    (subst (λ f. TypesItems w c.args.is_static (ctype_tree c.in_ok-whole.whole) f (inits_tree c.args.list.now) o) begun p) in
    IfSome_then (refusal_of c.in-Err.error) c.in-Err.ensures (λ r p. stops (so (Refused r) p))

pub list_in_part-returns : goal.list_in_part-returns
list_in_part-returns t c =
    let w = world_of c.args.world.now in
    let part = part_tree c.args.part in
    let begun = c.nothing_filled-nothing.ensures ∙ ap (λ f. inits.filled_so [] (objects.in_braces f)) c.of-frame.ensures in
    let so : (o : Outcome inits.Filled) → TypesItems w c.args.is_static (ctype_tree c.in_ok-whole.whole) (filled_tree c.nothing_filled-nothing.result) (inits_tree c.args.list.now) o
    → TypesItems w c.args.is_static part.ty (inits.filled_so [] (objects.in_braces (objects.frame_of w.structs part))) (inits_tree c.args.list.now) o
    = λ o p. subst (λ ty. TypesItems w c.args.is_static ty (inits.filled_so [] (objects.in_braces (objects.frame_of w.structs part))) (inits_tree c.args.list.now) o) c.in_ok-whole.ensures
    (subst (λ f. TypesItems w c.args.is_static (ctype_tree c.in_ok-whole.whole) f (inits_tree c.args.list.now) o) begun p) in
    goes_on (so (Typed (filled_tree c.in-Ok.got) (world_of c.list_items.new.world)) c.in-Ok.ensures)
    (ap (λ f. Typed f (world_of c.list_items.new.world)) c.in_ok-filled.ensures)
