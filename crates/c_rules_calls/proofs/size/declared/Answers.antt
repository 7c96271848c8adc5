use Rattle.std.proofs.Common.{arith}
use Rattle.c_rules_calls.proofs.Counts.{more_declared}
use Rattle.c_rules_calls.proofs.size.declared.Goals as goal

pub loop-item-preserved : goal.loop-item-preserved
loop-item-preserved c =
    let more = more_declared c.as_slice-item-items.result.now c.loop-item.item-index c.item-item.result c.loop-item-test.true c.item-item.is in
    grind (arith, more, c.loop-item.invariant, c.declared_by_item.ensures, c.saturating_add-count.ensures)
