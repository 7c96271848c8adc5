use Rattle.std.proofs.Common.{◌∙◌, ℤ, Bool, sym, subst, ap}
use Rattle.std.specs.Prelude.{◌&&◌}
use Rattle.num_api.specs.Plain.{Standing, cut}
use Rattle.num_api.specs.Ranges.{InRange, NoWider}
use Rattle.num_api.specs.Spans.{Span, range_of}
use Rattle.num_api.specs.Standings.{standing_of, Stands}
use Rattle.csharp.specs.Trees.{csexpr_tree}
use Rattle.mem_temps.specs.Cuts.{AreSidesCut}
use Rattle.mem_temps.proofs.Testing.{cut_on_both}
use Rattle.mem_temps.proofs.truths.cut_sides.Goals as goal

pub returns-then-some_left : goal.returns-then-some_left
returns-then-some_left c =
    let rs = c.args.ranges.now in let a = csexpr_tree c.args.left.now in let b = csexpr_tree c.args.right.now in
    let l = c.value_range-first.result in let r = c.value_range-second.result in
    subst (λ (some : Bool). AreSidesCut rs c.args.op a b c.args.truth some c.cut_temp-some_right.new.ranges)
    (ap (λ (one : Bool). one && c.cut_temp-some_right.result) c.if-some_left.true)
    (cut_on_both rs c.args.op a b c.args.truth (standing_of c.in-Some.how) c.in-Some.ensures.some l r c.value_range-first.ensures c.value_range-second.ensures
    c.side_temp-a.result c.side_temp-b.result c.side_temp-a.ensures c.side_temp-b.ensures c.standing_cut.result c.standing_cut-2.result
    c.standing_cut.ensures.holds c.standing_cut.ensures.plain
    (subst (λ (how : Standing). (x y : ℤ) → InRange r x → InRange l y → Stands how x y → InRange c.standing_cut-2.result x) c.turned.ensures c.standing_cut-2.ensures.holds)
    (subst (λ (how : Standing). (p q : Span) → NoWider r (range_of p) → NoWider l (range_of q) → NoWider c.standing_cut-2.result (range_of (cut how p q)))
    c.turned.ensures c.standing_cut-2.ensures.plain)
    c.cut_temp-some_left.new.ranges c.cut_temp-some_right.new.ranges c.cut_temp-some_left.result c.cut_temp-some_right.result
    c.cut_temp-some_left.ensures c.cut_temp-some_right.ensures)

pub returns-else-some_left : goal.returns-else-some_left
returns-else-some_left c =
    let rs = c.args.ranges.now in let a = csexpr_tree c.args.left.now in let b = csexpr_tree c.args.right.now in
    let l = c.value_range-first.result in let r = c.value_range-second.result in
    subst (λ (some : Bool). AreSidesCut rs c.args.op a b c.args.truth some c.cut_temp-some_right.new.ranges)
    (ap (λ (one : Bool). one && c.cut_temp-some_right.result) c.if-some_left.false ∙ sym c.if-some_left.false)
    (cut_on_both rs c.args.op a b c.args.truth (standing_of c.in-Some.how) c.in-Some.ensures.some l r c.value_range-first.ensures c.value_range-second.ensures
    c.side_temp-a.result c.side_temp-b.result c.side_temp-a.ensures c.side_temp-b.ensures c.standing_cut.result c.standing_cut-2.result
    c.standing_cut.ensures.holds c.standing_cut.ensures.plain
    (subst (λ (how : Standing). (x y : ℤ) → InRange r x → InRange l y → Stands how x y → InRange c.standing_cut-2.result x) c.turned.ensures c.standing_cut-2.ensures.holds)
    (subst (λ (how : Standing). (p q : Span) → NoWider r (range_of p) → NoWider l (range_of q) → NoWider c.standing_cut-2.result (range_of (cut how p q)))
    c.turned.ensures c.standing_cut-2.ensures.plain)
    c.cut_temp-some_left.new.ranges c.cut_temp-some_right.new.ranges c.cut_temp-some_left.result c.cut_temp-some_right.result
    c.cut_temp-some_left.ensures c.cut_temp-some_right.ensures)
