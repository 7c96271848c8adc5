use Rattle.std.proofs.Common.{◌≡◌, ◌∷◌, [], ◌∙◌, ap, map, length, arith, refl, sym, subst, None}
use Rattle.c_syntax.specs.declared.alarm.Shown.{Shown}
use Rattle.c_syntax.specs.Admission.{IsInShown}
use Rattle.csharp.specs.Trees.{csexpr_tree, cscheck_tree}
use Rattle.mem_intervals.specs.Marked.{IsMarked}
use Rattle.mem_intervals.proofs.Looks.{one_item, two_items, two_in}
use Rattle.mem_intervals.proofs.OneShown.{one_holds, one_form, one_names, one_plain, one_named}
use Rattle.mem_intervals.proofs.Showing.{marks_hold}
use Rattle.mem_intervals.proofs.shows.shown.Goals as goal

pub returns-in-Some-clause-holds : goal.returns-in-Some-clause-holds
returns-in-Some-clause-holds c =
    let check = cscheck_tree c.args.check.now in let e = csexpr_tree c.e-item.result in
    let n : length c.as_slice.result.now ≡ 1 = omega (arith, c.in-len1.len_at_least, c.in-len1.len_below) in
    let are : check.operands ≡ e ∷ [] = ap (map csexpr_tree) (sym c.as_slice.ensures ∙ one_item c.as_slice.result.now c.e-item.result n c.e-item.is) in
    let found = c.marks.ensures.some c.in-Some.marks c.in-Some.is in
    λ q types s y stands held look. subst (λ (v : Shown). IsInShown q.objects y v) (sym found.4)
    (marks_hold check e are c.args.cells.now found.1 found.2 found.0 found.3 q.objects s y held look)

pub returns-in_ok-shown-in-None-clause-holds : goal.returns-in_ok-shown-in-None-clause-holds
returns-in_ok-shown-in-None-clause-holds c =
    let check = cscheck_tree c.args.check.now in let e = csexpr_tree c.e-item.result in
    let n : length c.as_slice.result.now ≡ 1 = omega (arith, c.in-len1.len_at_least, c.in-len1.len_below) in
    let are : check.operands ≡ e ∷ [] = ap (map csexpr_tree) (sym c.as_slice.ensures ∙ one_item c.as_slice.result.now c.e-item.result n c.e-item.is) in
    λ q types s x stands held look. one_holds check e are c.args.ranges.now c.in_ok-shown-in-None.shown c.in_ok-shown-in-None.ensures q types s x stands look

pub returns-in_ok-shown-in-None-clause-form : goal.returns-in_ok-shown-in-None-clause-form
returns-in_ok-shown-in-None-clause-form c =
    let check = cscheck_tree c.args.check.now in let e = csexpr_tree c.e-item.result in
    let n : length c.as_slice.result.now ≡ 1 = omega (arith, c.in-len1.len_at_least, c.in-len1.len_below) in
    let are : check.operands ≡ e ∷ [] = ap (map csexpr_tree) (sym c.as_slice.ensures ∙ one_item c.as_slice.result.now c.e-item.result n c.e-item.is) in
    one_form check e are c.args.ranges.now c.in_ok-shown-in-None.shown c.in_ok-shown-in-None.ensures c.requires.0 c.requires.1

pub returns-in_ok-shown-in-None-clause-names : goal.returns-in_ok-shown-in-None-clause-names
returns-in_ok-shown-in-None-clause-names c =
    let check = cscheck_tree c.args.check.now in let e = csexpr_tree c.e-item.result in
    let n : length c.as_slice.result.now ≡ 1 = omega (arith, c.in-len1.len_at_least, c.in-len1.len_below) in
    let are : check.operands ≡ e ∷ [] = ap (map csexpr_tree) (sym c.as_slice.ensures ∙ one_item c.as_slice.result.now c.e-item.result n c.e-item.is) in
    λ q given. one_names check e are c.args.ranges.now c.in_ok-shown-in-None.shown c.in_ok-shown-in-None.ensures q given

pub returns-in_ok-shown-in-None-clause-plain : goal.returns-in_ok-shown-in-None-clause-plain
returns-in_ok-shown-in-None-clause-plain c =
    let check = cscheck_tree c.args.check.now in let e = csexpr_tree c.e-item.result in
    let n : length c.as_slice.result.now ≡ 1 = omega (arith, c.in-len1.len_at_least, c.in-len1.len_below) in
    let are : check.operands ≡ e ∷ [] = ap (map csexpr_tree) (sym c.as_slice.ensures ∙ one_item c.as_slice.result.now c.e-item.result n c.e-item.is) in
    let none : IsMarked c.args.cells.now check.check.kind check.ty e None = subst (IsMarked c.args.cells.now check.check.kind check.ty e) c.in-None.is c.marks.ensures in
    λ q passed copies p x given under g there bad. one_plain check e are c.args.ranges.now c.in_ok-shown-in-None.shown c.in_ok-shown-in-None.ensures q passed
    c.args.cells.now copies p x given none under g there bad

pub returns-in_ok-shown-in-None-clause-named : goal.returns-in_ok-shown-in-None-clause-named
returns-in_ok-shown-in-None-clause-named c =
    let check = cscheck_tree c.args.check.now in let e = csexpr_tree c.e-item.result in
    let n : length c.as_slice.result.now ≡ 1 = omega (arith, c.in-len1.len_at_least, c.in-len1.len_below) in
    let are : check.operands ≡ e ∷ [] = ap (map csexpr_tree) (sym c.as_slice.ensures ∙ one_item c.as_slice.result.now c.e-item.result n c.e-item.is) in
    λ q d o k looks is a named. one_named check e are c.args.ranges.now c.in_ok-shown-in-None.shown c.in_ok-shown-in-None.ensures q.objects d o k looks is a named

pub returns-in-len2-clause-holds : goal.returns-in-len2-clause-holds
returns-in-len2-clause-holds c =
    let check = cscheck_tree c.args.check.now in let e = csexpr_tree c.left-item.result in let f = csexpr_tree c.right-item.result in
    let n : length c.as_slice.result.now ≡ 2 = omega (arith, c.in-len2.len_at_least, c.in-len2.len_below) in
    let are : check.operands ≡ e ∷ f ∷ [] = ap (map csexpr_tree)
    (sym c.as_slice.ensures ∙ two_items c.as_slice.result.now c.left-item.result c.right-item.result n c.left-item.is c.right-item.is) in
    λ q types s x stands held look. c.shown_two.ensures.holds q.objects x (two_in check e f are (length q.objects) types c.args.ranges.now c.value_range-first.result
    c.value_range-second.result c.value_range-first.ensures c.value_range-second.ensures q s x refl stands look)

pub returns-in-len2-clause-names : goal.returns-in-len2-clause-names
returns-in-len2-clause-names c = λ q given. c.shown_two.ensures.names (length q.objects)
