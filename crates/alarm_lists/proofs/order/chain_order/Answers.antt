use Rattle.std.proofs.Common.{◌∙◌, ap, sym}
use Rattle.std.specs.List.{flat_map}
use Rattle.std.specs.Ordering.{nat_cmp, ordering_then}
use Rattle.std.specs.Cmp.Lexicographic.{slice_cmp}
use Rattle.c_steps.specs.Order.{place_key}
use Rattle.alarm_lists.proofs.Keys.{behind_place}
use Rattle.alarm_lists.proofs.order.chain_order.Goals as goal

pub loop-call-preserved : goal.loop-call-preserved
loop-call-preserved c =
    let i = rw (c.in-Some.ensures.cases.0, c.in-Some-split_first.ensures.cases.0) at c.loop-call.invariant in
    let more = flat_map place_key c.in-Some.more.now in
    let last = flat_map place_key c.in-Some-split_first.last.now in
    i ∙ behind_place c.in-Some.call.now c.in-Some-split_first.other.now more last
    ∙ ap (λ o. ordering_then o (slice_cmp nat_cmp more last)) (sym c.in-Equal.ensures)
