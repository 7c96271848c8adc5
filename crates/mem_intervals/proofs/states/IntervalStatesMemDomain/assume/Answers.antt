use Rattle.std.proofs.Common.{◌≡◌, ◌<◌, ◌&&◌, true, false, [], map, Some, length, sym, subst, ap, ◌∙◌}
use Rattle.std.specs.Prelude.{IsTrue}
use Rattle.std.proofs.lemmas.Bool.{and_parts}
use Rattle.std.proofs.lemmas.List.Elements.{All-head}
use Rattle.std.proofs.lemmas.Option.{slice_get_within}
use Rattle.c_syntax.specs.Types.{object_tree}
use Rattle.num_api.specs.Lives.{is_live}
use Rattle.block_mem.specs.declared.types.Scalar.TheVariants as scalars
use Rattle.csharp.specs.Formed.{AreOperandsTyped}
use Rattle.csharp.specs.Trees.{csexpr_tree}
use Rattle.plain_runs.specs.Changes.{plain_test}
use Rattle.mem_temps.specs.Ranges.{AreIn}
use Rattle.mem_temps.specs.Cuts.{IsTestCut}
use Rattle.mem_objects.specs.Cells.{cut_by, are_cells_left}
use Rattle.mem_intervals.specs.Sets.{below}
use Rattle.mem_intervals.proofs.Beneath.{below_from, test_under}
use Rattle.mem_intervals.proofs.Calls.{test_keeps}
use Rattle.mem_intervals.proofs.Starts.{truths_agree}
use Rattle.mem_intervals.proofs.Passings.{all_of_three, first_two, in_same, under_same, in_tested, numbers_left, under_tested, below_has}
use Rattle.mem_intervals.proofs.states.IntervalStatesMemDomain.assume.Goals as goal

pub returns-then-not-may_be-clause-stands : goal.returns-then-not-may_be-clause-stands
returns-then-not-may_be-clause-stands c = λ s v h g is.
    let m = c.args.self.now in
    let in_it = test_keeps c.value_range-range.result (csexpr_tree c.args.condition.now) c.args.truth c.may_be.result m.temps.ranges
    c.value_range-range.ensures c.may_be.ensures.holds (length (map object_tree m.objects)) m.temps.types s v h.temps g is in
    let clash : false ≡ true = sym c.if-not-may_be.true ∙ in_it in absurd (cc)

pub returns-clause-stands : goal.returns-clause-stands
returns-clause-stands c = λ s v h g is.
    let m = c.args.self.now in let os = map object_tree m.objects in let new = c.cut_by_test-some.new.ranges in
    let all = subst (λ rs. AreIn rs s) (sym c.pass_on.ensures.kept.1) h.temps.temps in
    let kept = c.cut_by_test-some.ensures.holds s v all g (truths_agree v c.args.truth is) in
    let live = c.in_ok-live.ensures.stands s v h.same g is in
    let ds = below (length m.copies) in
    let some = numbers_left os m.temps.types c.pass_on.new.self.types m.temps.ranges new m.temps.passed c.pass_on.new.self.passed m.cells m.copies
    c.pass_on.ensures.kept.0 c.pass_on.ensures.passed ds m.one s h kept.1 in
    let left : IsTrue c.in_ok-left.left = c.in_ok-left.ensures.cells.1 ∙ ap (are_cells_left m.copies ds) c.in_ok-left.ensures.cells.0 ∙ some in (
      all_of_three c.cut_by_test-some.result c.in_ok-left.left (is_live c.in_ok-live.live) (is_live c.live_if_both-2.result)
          (c.live_if_both-2.ensures ∙ ap (λ b. c.cut_by_test-some.result && b) c.live_if_both.ensures) kept.0 left live,
      in_same os (map object_tree c.cut_objects.new.self.objects) _ c.cut_objects.new.self.temps _ c.cut_objects.new.self.cells m.copies
          c.cut_objects.new.self.copies (ap (map object_tree) c.in_ok-left.ensures.kept.0) c.in_ok-left.ensures.kept.1 c.in_ok-left.ensures.cells.0
          c.in_ok-left.ensures.kept.2 m.one c.cut_objects.new.self.one s c.in_ok-left.ensures.kept.3
          (in_tested os m.temps.types c.pass_on.new.self.types m.temps.ranges new m.temps.passed c.pass_on.new.self.passed m.cells m.copies c.pass_on.ensures.kept.0
          c.pass_on.ensures.passed ds m.one s h kept.1),
    )

pub returns-clause-sharp : goal.returns-clause-sharp
returns-clause-sharp c = λ s v h g is.
    let m = c.args.self.now in let os = map object_tree m.objects in let new = c.cut_by_test-some.new.ranges in
    let all = subst (λ rs. AreIn rs s) (sym c.pass_on.ensures.kept.1) h.2.temps.temps in
    let kept = c.cut_by_test-some.ensures.holds s v all g (truths_agree v c.args.truth is) in
    let ds = below (length m.copies) in (
      c.in_ok-left.ensures.kept.3 ∙ h.0,
      h.1,
      in_same os (map object_tree c.cut_objects.new.self.objects) _ c.cut_objects.new.self.temps _ c.cut_objects.new.self.cells m.copies
          c.cut_objects.new.self.copies (ap (map object_tree) c.in_ok-left.ensures.kept.0) c.in_ok-left.ensures.kept.1 c.in_ok-left.ensures.cells.0
          c.in_ok-left.ensures.kept.2 m.one c.cut_objects.new.self.one s c.in_ok-left.ensures.kept.3
          (in_tested os m.temps.types c.pass_on.new.self.types m.temps.ranges new m.temps.passed c.pass_on.new.self.passed m.cells m.copies c.pass_on.ensures.kept.0
          c.pass_on.ensures.passed ds m.one s h.2 kept.1),
    )

pub returns-clause-plain : goal.returns-clause-plain
returns-clause-plain c = λ q p r same h g.
    let m = c.args.self.now in let os = map object_tree m.objects in let new = c.cut_by_test-some.new.ranges in let ds = below (length m.copies) in
    let typed = All-head (AreOperandsTyped c.requires.0) (csexpr_tree c.args.condition.now) [] c.requires.2.typed.0 in
    below_from _ _ _ r (λ here.
    let parts = and_parts c.cut_by_test-some.result c.in_ok-left.left (first_two c.cut_by_test-some.result c.in_ok-left.left (is_live c.in_ok-live.live)
    (is_live c.live_if_both-2.result) (c.live_if_both-2.ensures ∙ ap (λ b. c.cut_by_test-some.result && b) c.live_if_both.ensures) here) in
    let left : IsTrue (are_cells_left m.copies ds (cut_by m.copies new ds m.cells)) =
    sym (c.in_ok-left.ensures.cells.1 ∙ ap (are_cells_left m.copies ds) c.in_ok-left.ensures.cells.0) ∙ parts.1 in
    let cut = subst (λ rs. IsTestCut rs (csexpr_tree c.args.condition.now) c.args.truth c.cut_by_test-some.result new) c.pass_on.ensures.kept.1 c.cut_by_test-some.ensures in
    let y = test_under c.requires.0 m.temps.types m.temps.ranges new m.temps.passed c.pass_on.new.self.passed (csexpr_tree c.args.condition.now) c.args.truth
    c.cut_by_test-some.result m.cells m.copies ds c.requires.1.1 typed cut
    (λ x n ins und is out.
    let never = c.may_be.ensures.plain _ (c.value_range-range.ensures.plain c.requires.0 x n typed ins und is) out in
    let clash : true ≡ false = sym c.if-not-may_be.false ∙ never in absurd (cc))
    (λ d t at. below_has (length m.copies) d (subst (λ n. d < n) (sym h.copy_count) (slice_get_within m.temps.types d (scalars.Int t) at)))
    p r h.known h.temps (subst (λ ts. plain_test ts p (csexpr_tree c.args.condition.now) c.args.truth ≡ Some r) same.1 g) parts.0 left in (
      y.0,
      y.1,
      under_same os (map object_tree c.cut_objects.new.self.objects) _ c.cut_objects.new.self.temps _ c.cut_objects.new.self.cells m.copies
          c.cut_objects.new.self.copies (ap (map object_tree) c.in_ok-left.ensures.kept.0) c.in_ok-left.ensures.kept.1 c.in_ok-left.ensures.cells.0
          c.in_ok-left.ensures.kept.2 y.0
          (under_tested os m.temps.types c.pass_on.new.self.types m.temps.ranges new m.temps.passed c.pass_on.new.self.passed m.cells m.copies c.pass_on.ensures.kept.0
          c.pass_on.ensures.passed ds p y.0 h y.2 y.3),
    ))
