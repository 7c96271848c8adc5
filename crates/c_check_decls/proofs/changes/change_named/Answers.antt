use Rattle.std.proofs.Common.{◌≡◌, ◌+◌, sym, ap, refl, ◌∙◌, arith, length, map}
use Rattle.std.proofs.lemmas.List.{length-map}
use Rattle.c_typing.specs.World as typing
use Rattle.c_typing.specs.World.{Linked}
use Rattle.c_check_names.specs.Trees.{linked_tree}
use Rattle.c_check_names.specs.Worlds.{world_of}
use Rattle.c_check_names.specs.declared.types.Linked.{Linked as Held}
use Rattle.c_check_names.proofs.Become.{place_low, place_high}
use Rattle.c_check_decls.specs.Changes.{changed_at}
use Rattle.c_check_decls.specs.Entities.{changed}
use Rattle.c_check_decls.proofs.Changing.{changed_from, next_changed, all_changed, length-changed}
use Rattle.c_check_decls.proofs.changes.change_named.Goals as goal

pub change_at-requires : goal.change_at-requires
change_at-requires c =
    let linked = c.each.world.linked in
    let high = place_high c.each.from c.in-Some.place c.args.name.now (map (λ (e : Held). e.name) linked) c.in-Some.ensures.place in
    omega (arith, high, length-map linked (λ (e : Held). e.name))

pub overflow_add-from : goal.overflow_add-from
overflow_add-from c = omega (arith, c.in-Some.ensures.small)

pub each-smaller : goal.each-smaller
each-smaller c =
    let linked = c.each.world.linked in
    let now = ap (λ (w : typing.World). length w.linked) c.in_ok-change_at.ensures in
    let same = length-changed (changed c.args.change.now) c.in-Some.place (map linked_tree linked) in
    let low = place_low c.each.from c.in-Some.place c.args.name.now (map (λ (e : Held). e.name) linked) c.in-Some.ensures.place in
    let high = place_high c.each.from c.in-Some.place c.args.name.now (map (λ (e : Held). e.name) linked) c.in-Some.ensures.place in
    omega (arith, now, same, low, high, length-map linked (λ (e : Held). e.name), length-map linked linked_tree, length-map c.change_at.new.world.linked linked_tree)

pub each-preserved : goal.each-preserved
each-preserved c =
    let change = changed c.args.change.now in
    let name = c.args.name.now in
    let place = c.in-Some.place in
    let linked = c.each.world.linked in
    let told = changed_at change place (map linked_tree linked) in
    let now : map linked_tree c.change_at.new.world.linked ≡ told = ap (λ (w : typing.World). w.linked) c.in_ok-change_at.ensures in (
      ap (changed_from (λ (e : Linked). e.name) name change (place + 1)) now
          ∙ sym (next_changed linked_tree (λ (e : Held). e.name) (λ (e : Linked). e.name) (λ e. refl) name change c.each.from place linked c.in-Some.ensures.place)
          ∙ c.each.invariant.0,
      c.in_ok-change_at.ensures ∙ ap (λ (w : typing.World). let with_linked : typing.World = record w { linked = told } in with_linked) c.each.invariant.1
          ∙ ap (λ es. record (world_of c.args.world.now) { linked = es }) (sym now),
    )

pub returns : goal.returns
returns c =
    let linked = c.each.world.linked in
    let none = sym c.in_default.is ∙ c.place_from.ensures.place in
    c.each.invariant.1 ∙ ap (λ es. record (world_of c.args.world.now) { linked = es })
    (sym (all_changed linked_tree (λ (e : Held). e.name) (λ (e : Linked). e.name) (λ e. refl) c.args.name.now (changed c.args.change.now) c.each.from linked none)
    ∙ c.each.invariant.0)
