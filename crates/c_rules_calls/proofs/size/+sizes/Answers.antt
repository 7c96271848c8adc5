use Rattle.std.proofs.Common.{arith}
use Rattle.c_rules_calls.proofs.Counts.{more_among}
use Rattle.c_rules_calls.proofs.size.+sizes.Goals as goal

pub size_among-loop-item-preserved : goal.size_among-loop-item-preserved
size_among-loop-item-preserved t c =
    let more = more_among c.as_slice-item-items.result.now c.loop-item.item-index c.item-item.result c.loop-item-test.true c.item-item.is in
    grind (arith, more, c.loop-item.invariant, c.size_in.ensures, c.saturating_add-size.ensures)
