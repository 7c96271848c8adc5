use Rattle.std.proofs.Common.{ap, sym, subst, ◌∙◌, rules, [], ◌∷◌, ◌++◌, length}
use Rattle.std.specs.Option.{option_map_or}
use Rattle.c_check_names.specs.Kept.{places_at, IsIndexOf}
use Rattle.c_check_names.proofs.Indexes.{one_more}
use Rattle.c_check_names.proofs.name_index.with_place.Goals as goal

pub returns-in-Some : goal.returns-in-Some
returns-in-Some c = λ names h e.
    let there = c.in-Some.there.now.items in
    let after = c.get_mut.follows.lender c.push.new.self in
    let items = c.in_ok-push.ensures.items ∙ ap (λ k. there ++ k ∷ []) e ∙ ap (λ o. option_map_or (λ v. v.items) o [] ++ length names ∷ []) c.in-Some.ensures.value in
    subst (λ name. IsIndexOf after (names ++ name ∷ [])) c.as_slice.ensures.value
    (one_more c.as_slice.result.now c.args.places after names c.push.new.self h ((c.get_mut.follows.holds c.push.new.self).3 (search rules)) items)

pub returns : goal.returns
returns c = λ names h e.
    let before = c.get_mut.follows.lender-at-none in
    let same = c.get_mut.follows.holds-at-none in
    let items = c.in_ok-push-2.ensures.items ∙ ap (λ v. v ++ c.args.place ∷ []) c.new-alone.ensures.items ∙ ap (λ k. k ∷ []) e
    ∙ ap (λ o. option_map_or (λ v. v.items) o [] ++ length names ∷ []) c.in_default.ensures.value
    ∙ ap (λ m. places_at m c.as_slice.result.now ++ length names ∷ []) (sym same)
    ∙ ap (λ name. places_at before name ++ length names ∷ []) c.as_slice.ensures.value in
    one_more c.args.name.items before c.insert.new.self names c.push-2.new.self (subst (λ m. IsIndexOf m names) (sym same) h) c.in_ok-insert.ensures.updates items
