use Rattle.std.proofs.Common.{◌∙◌}
use Rattle.lower_zeros.proofs.Marks.{marked_more}
use Rattle.lower_zeros.proofs.named.marks_of.Goals as goal

pub loop-init-preserved : goal.loop-init-preserved
loop-init-preserved c = record {
  many = c.mark.ensures.many ∙ c.loop-init.invariant.many;
  marked =
      marked_more c.as_slice-init-items.result.now c.loop-init.init-index c.init-item.result c.loop-init.marks.items c.mark.new.marks.items
      c.loop-init-test.true c.init-item.is c.mark.ensures.many c.mark.ensures.marked c.loop-init.invariant.marked;
}
