use Rattle.std.proofs.Common.{◌≡◌, ◌+◌, sym, ap, ◌∙◌, arith, length, map}
use Rattle.std.proofs.lemmas.List.{length-map}
use Rattle.c_typing.specs.World as typing
use Rattle.c_check_names.specs.Trees.{redefined_at, tag_meaning, tag_tree}
use Rattle.c_check_names.specs.Worlds.{world_of}
use Rattle.c_check_names.specs.declared.types.TagBinding.{TagBinding}
use Rattle.c_check_names.proofs.Become.{told_from, place_low, place_high, next_told, all_told, length-redefined}
use Rattle.c_check_names.proofs.world.World.redefine.Goals as goal

pub redefine_at-requires : goal.redefine_at-requires
redefine_at-requires c =
    let tags = c.loop-place.self.tags in
    let high = place_high c.loop-place.from c.in-Some.place c.args.tag.now (map (λ (b : TagBinding). b.tag) tags) c.in-Some.ensures.place in
    omega (arith, high, length-map tags (λ (b : TagBinding). b.tag))

pub overflow_add-from : goal.overflow_add-from
overflow_add-from c = omega (arith, c.in-Some.ensures.small)

pub loop-place-smaller : goal.loop-place-smaller
loop-place-smaller c =
    let tags = c.loop-place.self.tags in
    let now = ap (λ (w : typing.World). length w.tags) c.in_ok-redefine_at.ensures in
    let same = length-redefined c.args.defined (tag_meaning c.args.meaning) c.in-Some.place (map tag_tree tags) in
    let low = place_low c.loop-place.from c.in-Some.place c.args.tag.now (map (λ (b : TagBinding). b.tag) tags) c.in-Some.ensures.place in
    let high = place_high c.loop-place.from c.in-Some.place c.args.tag.now (map (λ (b : TagBinding). b.tag) tags) c.in-Some.ensures.place in
    omega (arith, now, same, low, high, length-map tags (λ (b : TagBinding). b.tag), length-map tags tag_tree, length-map c.redefine_at.new.self.tags tag_tree)

pub loop-place-preserved : goal.loop-place-preserved
loop-place-preserved c =
    let defined = c.args.defined in
    let meaning = tag_meaning c.args.meaning in
    let tag = c.args.tag.now in
    let place = c.in-Some.place in
    let tags = c.loop-place.self.tags in
    let told = redefined_at defined meaning place (map tag_tree tags) in
    let now : map tag_tree c.redefine_at.new.self.tags ≡ told = ap (λ (w : typing.World). w.tags) c.in_ok-redefine_at.ensures in (
      ap (told_from defined meaning tag (place + 1)) now ∙ sym (next_told defined meaning tag c.loop-place.from tags place c.in-Some.ensures.place) ∙ c.loop-place.invariant.0,
      c.in_ok-redefine_at.ensures ∙ ap (λ (w : typing.World). let with_tags : typing.World = record w { tags = told } in with_tags) c.loop-place.invariant.1
          ∙ ap (λ bs. record (world_of c.args.self.now) { tags = bs }) (sym now),
    )

pub returns : goal.returns
returns c =
    let tags = c.loop-place.self.tags in
    let none = sym c.in_default.is ∙ c.place_from.ensures.place in
    c.loop-place.invariant.1 ∙ ap (λ bs. record (world_of c.args.self.now) { tags = bs })
    (sym (all_told c.args.defined (tag_meaning c.args.meaning) c.args.tag.now c.loop-place.from tags none) ∙ c.loop-place.invariant.0)
