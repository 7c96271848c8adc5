use Rattle.std.proofs.Common.{◌≡◌, ◌&&◌, arith, List, [], ◌∷◌, length, map, Some, sym, subst, ap, ◌∙◌}
use Rattle.c_syntax.specs.Types.{object_tree}
use Rattle.num_api.specs.Lives.{is_live}
use Rattle.block_mem.specs.declared.types.Scalar.{Scalar}
use Rattle.std.proofs.lemmas.Bool.{and_parts}
use Rattle.c_values.specs.Looks.{judge, Passes}
use Rattle.csharp.specs.Trees.{csexpr_tree, cscheck_tree}
use Rattle.csharp.specs.States.{look_of}
use Rattle.mem_temps.specs.Sets.{Stands}
use Rattle.plain_runs.specs.Checks.{plain_pass}
use Rattle.mem_intervals.proofs.Beneath.{below_from}
use Rattle.mem_intervals.proofs.Knowing.{none_passed}
use Rattle.mem_intervals.proofs.Letting.{pass_stays}
use Rattle.mem_intervals.proofs.Looks.{one_item, two_items, two_stays}
use Rattle.mem_intervals.proofs.Passings.{all_three, first_two, both_live, in_passed, under_passed}
use Rattle.mem_intervals.proofs.Surviving.{pass_under}
use Rattle.mem_intervals.proofs.states.IntervalStatesMemDomain.pass.Goals as goal

pub returns-in_ok-left-in-len1-clause-stands : goal.returns-in_ok-left-in-len1-clause-stands
returns-in_ok-left-in-len1-clause-stands c =
    let check = cscheck_tree c.args.check.now in let e = csexpr_tree c.e-item.result in let m = c.args.self.now in let os = map object_tree m.objects in
    let n : length c.as_slice-2.result.now ≡ 1 = omega (arith, c.in-len1.len_at_least, c.in-len1.len_below) in
    let are : check.operands ≡ e ∷ [] = ap (map csexpr_tree) (sym c.as_slice-2.ensures ∙ one_item c.as_slice-2.result.now c.e-item.result n c.e-item.is) in
    λ q s same h judged.
    let y = pass_stays check e are (length os) m.temps.types m.temps.ranges c.value_range-value.result c.exact_range-exact.result c.value_range-value.ensures
    c.exact_range-exact.ensures c.requires.0 c.requires.2 c.in_ok-left-in-len1.left c.keep_passing.new.self.ranges c.keep_passing.new.self.passed
    c.in_ok-left-in-len1.ensures.passing c.passes_one-passes.result c.passes_one-passes.ensures q s (sym (ap length same.0)) h.temps judged in
    let live = c.in_ok-live.ensures.stands s h.same (subst (λ objects. judge objects (look_of check s ∷ []) ≡ Passes) (sym same.0 ∙ ap (map object_tree) (sym c.as_slice.ensures)) judged) in (
      all_three c.passes_one-passes.result c.in_ok-left-in-len1.left (is_live c.in_ok-live.live) (is_live c.live_if_both-in-len1.result)
          (c.live_if_both-in-len1.ensures ∙ ap (λ b. c.passes_one-passes.result && b) c.live_if_both.ensures) y.0 live,
      in_passed os m.temps.types c.keep_passing.new.self.types m.temps.ranges c.keep_passing.new.self.ranges m.temps.passed c.keep_passing.new.self.passed m.cells m.copies
          c.keep_passing.ensures.kept m.one s h y.1 y.2,
    )

pub returns-in_ok-left-in-len1-clause-sharp : goal.returns-in_ok-left-in-len1-clause-sharp
returns-in_ok-left-in-len1-clause-sharp c =
    let check = cscheck_tree c.args.check.now in let e = csexpr_tree c.e-item.result in let m = c.args.self.now in let os = map object_tree m.objects in
    let n : length c.as_slice-2.result.now ≡ 1 = omega (arith, c.in-len1.len_at_least, c.in-len1.len_below) in
    let are : check.operands ≡ e ∷ [] = ap (map csexpr_tree) (sym c.as_slice-2.ensures ∙ one_item c.as_slice-2.result.now c.e-item.result n c.e-item.is) in
    λ q s same h judged.
    let y = pass_stays check e are (length os) m.temps.types m.temps.ranges c.value_range-value.result c.exact_range-exact.result c.value_range-value.ensures
    c.exact_range-exact.ensures c.requires.0 c.requires.2 c.in_ok-left-in-len1.left c.keep_passing.new.self.ranges c.keep_passing.new.self.passed
    c.in_ok-left-in-len1.ensures.passing c.passes_one-passes.result c.passes_one-passes.ensures q s (sym (ap length same.0)) h.2.temps judged in (
      h.0,
      h.1,
      in_passed os m.temps.types c.keep_passing.new.self.types m.temps.ranges c.keep_passing.new.self.ranges m.temps.passed c.keep_passing.new.self.passed m.cells m.copies
          c.keep_passing.ensures.kept m.one s h.2 y.1 y.2,
    )

pub returns-in_ok-left-in-len1-clause-plain : goal.returns-in_ok-left-in-len1-clause-plain
returns-in_ok-left-in-len1-clause-plain c =
    let check = cscheck_tree c.args.check.now in let e = csexpr_tree c.e-item.result in let m = c.args.self.now in let os = map object_tree m.objects in
    let n : length c.as_slice-2.result.now ≡ 1 = omega (arith, c.in-len1.len_at_least, c.in-len1.len_below) in
    let are : check.operands ≡ e ∷ [] = ap (map csexpr_tree) (sym c.as_slice-2.ensures ∙ one_item c.as_slice-2.result.now c.e-item.result n c.e-item.is) in
    λ q p r same h g. below_from _ _ _ r (λ here.
    let both = and_parts c.passes_one-passes.result c.in_ok-left-in-len1.left (first_two c.passes_one-passes.result c.in_ok-left-in-len1.left (is_live c.in_ok-live.live)
    (is_live c.live_if_both-in-len1.result) (c.live_if_both-in-len1.ensures ∙ ap (λ b. c.passes_one-passes.result && b) c.live_if_both.ensures) here) in
    let y = pass_under c.requires.0 m.temps.types m.temps.ranges c.keep_passing.new.self.ranges m.temps.passed c.keep_passing.new.self.passed check e
    c.value_range-value.result c.exact_range-exact.result c.in_ok-left-in-len1.left c.requires.1.1 c.requires.2 are c.value_range-value.ensures
    c.exact_range-exact.ensures c.in_ok-left-in-len1.ensures.passing p r h.temps
    (subst (λ (ts : List Scalar). plain_pass ts p check ≡ Some r) same.1 g) both.1 in (
      y.0,
      y.1,
      under_passed os m.temps.types c.keep_passing.new.self.types m.temps.ranges c.keep_passing.new.self.ranges m.temps.passed c.keep_passing.new.self.passed m.cells
          m.copies c.keep_passing.ensures.kept p y.0 h y.2 y.3,
    ))

pub returns-in-len2-clause-stands : goal.returns-in-len2-clause-stands
returns-in-len2-clause-stands c =
    let check = cscheck_tree c.args.check.now in let e = csexpr_tree c.left-item.result in let f = csexpr_tree c.right-item.result in let m = c.args.self.now in
    let os = map object_tree m.objects in
    let n : length c.as_slice-2.result.now ≡ 2 = omega (arith, c.in-len2.len_at_least, c.in-len2.len_below) in
    let are : check.operands ≡ e ∷ f ∷ [] = ap (map csexpr_tree)
    (sym c.as_slice-2.ensures ∙ two_items c.as_slice-2.result.now c.left-item.result c.right-item.result n c.left-item.is c.right-item.is) in
    λ q s same h judged.
    let live = c.in_ok-live.ensures.stands s h.same (subst (λ objects. judge objects (look_of check s ∷ []) ≡ Passes) (sym same.0 ∙ ap (map object_tree) (sym c.as_slice.ensures)) judged) in (
      both_live c.passes_two.result (is_live c.in_ok-live.live) (is_live c.live_if_both-in-len2.result) c.live_if_both-in-len2.ensures
          (two_stays check e f are (length os) m.temps.types m.temps.ranges c.value_range-first.result c.value_range-second.result c.value_range-first.ensures
          c.value_range-second.ensures c.passes_two.result c.passes_two.ensures q s (sym (ap length same.0)) h.temps judged) live,
      in_passed os m.temps.types c.pass_on.new.self.types m.temps.ranges c.pass_on.new.self.ranges m.temps.passed c.pass_on.new.self.passed m.cells m.copies
          c.pass_on.ensures.kept.0 m.one s h (subst (λ rs. Stands (length os) m.temps.types rs s) (sym c.pass_on.ensures.kept.1) h.temps)
          (none_passed c.pass_on.new.self.passed c.pass_on.ensures.passed s),
    )
