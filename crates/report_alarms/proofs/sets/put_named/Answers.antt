use Rattle.std.proofs.Common.{rules, ◌≡◌, ◌≤◌, ◌<◌, ◌+◌, ◌-◌, ◌++◌, ◌∷◌, ◌||◌, ◌∙◌, suc, [], Some, arith, ap, length, map, refl, slice_get, subst, sym}
use Rattle.std.proofs.lemmas.List.{length-drop, length-map}
use Rattle.std.proofs.lemmas.Option.{slice_get_read, slice_get_within}
use Rattle.c_syntax.specs.Types.{object_tree}
use Rattle.report_alarms.specs.Named.{HasNoName, IsNextName}
use Rattle.report_alarms.specs.ReportText.{is_some_word, joined_on, named_from, sized_text}
use Rattle.report_alarms.proofs.Named.{before, left_over, none_named, or_false, or_true, step_to}
use Rattle.report_alarms.proofs.sets.put_named.Goals as goal

pub returns-in_default-clause-joins : goal.returns-in_default-clause-joins
returns-in_default-clause-joins c = λ rest.
    let names = c.args.names.now in
    let objects = map object_tree c.each.left.now in
    let no : HasNoName names c.each.from = search rules in
    let none : named_from names c.each.from objects ≡ [] = none_named names c.each.from objects (λ n low high. no n low) in
    ap (λ w. c.each.text ++ joined_on c.each.some (w ++ rest)) (sym none) ∙ c.each.invariant.0 rest

pub returns-in_default-clause-some : goal.returns-in_default-clause-some
returns-in_default-clause-some c =
    let names = c.args.names.now in
    let objects = map object_tree c.each.left.now in
    let no : HasNoName names c.each.from = search rules in
    let none : named_from names c.each.from objects ≡ [] = none_named names c.each.from objects (λ n low high. no n low) in
    sym (or_false c.each.some) ∙ ap (λ w. c.each.some || is_some_word w) (sym none) ∙ c.each.invariant.1

pub returns-in_default-get-clause-joins : goal.returns-in_default-get-clause-joins
returns-in_default-get-clause-joins c = λ rest.
    let names = c.args.names.now in
    let objects = map object_tree c.each.left.now in
    let next : IsNextName names c.each.from c.in-Some.number = search rules in
    let past : length c.each.left.now ≤ c.in-Some.number - c.each.from = search rules in
    let none : named_from names c.each.from objects ≡ [] = none_named names c.each.from objects
    (λ n low high. next.least n low (before c.each.from c.in-Some.number (length c.each.left.now) n next.behind past (subst (λ k. n < c.each.from + k) (length-map c.each.left.now object_tree) high))) in
    ap (λ w. c.each.text ++ joined_on c.each.some (w ++ rest)) (sym none) ∙ c.each.invariant.0 rest

pub returns-in_default-get-clause-some : goal.returns-in_default-get-clause-some
returns-in_default-get-clause-some c =
    let names = c.args.names.now in
    let objects = map object_tree c.each.left.now in
    let next : IsNextName names c.each.from c.in-Some.number = search rules in
    let past : length c.each.left.now ≤ c.in-Some.number - c.each.from = search rules in
    let none : named_from names c.each.from objects ≡ [] = none_named names c.each.from objects
    (λ n low high. next.least n low (before c.each.from c.in-Some.number (length c.each.left.now) n next.behind past (subst (λ k. n < c.each.from + k) (length-map c.each.left.now object_tree) high))) in
    sym (or_false c.each.some) ∙ ap (λ w. c.each.some || is_some_word w) (sym none) ∙ c.each.invariant.1

pub each-preserved : goal.each-preserved
each-preserved c =
    let names = c.args.names.now in
    let from = c.each.from in
    let number = c.in-Some.number in
    let gap = number - from in
    let left = c.each.left.now in
    let objects = map object_tree left in
    let object = object_tree c.in-Some-get.object.now in
    let next : IsNextName names from number = search rules in
    let sum : from + gap ≡ number = omega (arith, next.behind) in
    let there : slice_get left gap ≡ Some c.in-Some-get.object.now =
    slice_get_read left (length left) gap c.in-Some-get.object.now refl c.in-Some-get.ensures.lookup.3.0 c.in-Some-get.ensures.lookup.1 in
    let first : named_from names from objects ≡ sized_text object ∷ named_from names (number + 1) (map object_tree c.behind-left.result.now) =
    step_to names from gap number left c.behind-left.result.now c.in-Some-get.object.now next sum there c.behind-left.ensures in (
      λ rest. c.in_ok-put_one.ensures (named_from names (number + 1) (map object_tree c.behind-left.result.now) ++ rest)
          ∙ ap (λ w. c.each.text ++ joined_on c.each.some (w ++ rest)) (sym first) ∙ c.each.invariant.0 rest,
      sym (or_true c.each.some) ∙ ap (λ w. c.each.some || is_some_word w) (sym first) ∙ c.each.invariant.1,
      left_over from gap number (length left) (length c.behind-left.result.now) (length c.args.objects.now) sum (slice_get_within left gap c.in-Some-get.object.now there)
          (ap length c.behind-left.ensures ∙ length-drop (suc gap) left) c.each.invariant.2,
    )
