use Rattle.std.proofs.Common.{FitsSigned, Some, None, rules, sym, ap, ◌∙◌, subst}
use mir.Syntax.{w128}
use Rattle.std.proofs.lemmas.Int.{to_z-of_z}
use Rattle.c_syntax.specs.declared.alarm.Pointers.{Pointers}
use Rattle.csharp.specs.Trees.{csexpr_tree}
use Rattle.mem_places.specs.ShownPlaces.{IsShownPlace, IsShownOffset, set_at, set_of}
use Rattle.mem_places.proofs.Showing.{shown_fixed, shown_unit, shown_nothing}
use Rattle.mem_places.proofs.sets.shown_place.Goals as goal

pub returns-in-None : goal.returns-in-None
returns-in-None c = shown_nothing (csexpr_tree c.args.e.now) c.in-None.ensures.named

pub returns-in-Some-2 : goal.returns-in-Some-2
returns-in-Some-2 c =
    let e = csexpr_tree c.args.e.now in let k = c.in-Some-2.offset in let fits : FitsSigned w128 c.in-Some-2.offset = search rules in
    let own : IsShownOffset e (Some k) = subst (IsShownOffset e) c.in-Some-2.is c.in_ok-offset.ensures in
    subst (λ (set : Pointers). IsShownPlace e (Some set)) (sym (c.at_offset.ensures ∙ ap (set_at c.from_vec-names.result) (to_z-of_z w128 k fits)))
    (shown_fixed e c.in-Some.place.object c.in-Some.place.unit k c.from_vec-names.result (c.from_vec-names.ensures ∙ c.in_ok-vec.ensures.items_if_clones_equal (λ y e. e))
    c.in-Some.ensures.place c.in-Some.ensures.named (own.0, own.1, own.2) own.3)

pub returns-in-None-2 : goal.returns-in-None-2
returns-in-None-2 c =
    let e = csexpr_tree c.args.e.now in let u = c.in-Some.place.unit in let fits : FitsSigned w128 c.in-Some.place.unit = search rules in
    let own : IsShownOffset e None = subst (IsShownOffset e) c.in-None-2.is c.in_ok-offset.ensures in
    subst (λ (set : Pointers). IsShownPlace e (Some set)) (sym (c.multiples.ensures ∙ ap (set_of c.from_vec-names.result) (to_z-of_z w128 u fits)))
    (shown_unit e c.in-Some.place.object u c.from_vec-names.result (c.from_vec-names.ensures ∙ c.in_ok-vec.ensures.items_if_clones_equal (λ y e. e))
    c.in-Some.ensures.place c.in-Some.ensures.named own)
