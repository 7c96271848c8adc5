use Rattle.std.proofs.Common.{◌≡◌, ap, ◌∙◌, ◌+◌, ◌-◌, arith, rules, [], ◌∷◌, length, length-append, take}
use Rattle.std.specs.Prelude.{vec_len}
use Rattle.std.specs.Option.{option_map_or}
use Rattle.c_check_names.specs.Kept.{places_at}
use Rattle.c_check_names.specs.Places.{places_of}
use Rattle.c_check_names.proofs.Indexes.{one_less, places_before}
use Rattle.c_check_names.proofs.name_index.pop_place.Goals as goal

pub returns-in-Some : goal.returns-in-Some
returns-in-Some c = λ front h.
    let size : vec_len c.in-Some.there.now - 1 ≡ length c.in-Some.there.now.items - 1 = omega (arith, c.in-Some.there.now.ok) in
    let held = ap (λ o. option_map_or (λ v. v.items) o []) c.in-Some.ensures.value in
    one_less c.args.name.now c.args.places.now (c.get_mut.follows.lender c.pop.new.self) front c.pop.new.self h ((c.get_mut.follows.holds c.pop.new.self).3 (search rules))
    (c.pop.ensures.rest ∙ ap (λ n. take n c.in-Some.there.now.items) size ∙ ap (λ ps. take (length ps - 1) ps) held)

pub returns-in_default : goal.returns-in_default
returns-in_default c = λ front h.
    let none : [] ≡ places_at c.args.places.now c.args.name.now = ap (λ o. option_map_or (λ v. v.items) o []) c.in_default.ensures.value in
    let some = places_before c.args.name.now c.args.places.now c.args.places.now front h in
    absurd (omega (arith, ap length (none ∙ some), length-append (places_of c.args.name.now front) ((0 + length front) ∷ [])))
