use Rattle.std.proofs.Common.{true, length, ap, ◌∙◌, get_or, false}
use Rattle.std.proofs.Math.ListN.{length-set}
use Rattle.c_rules_effects.proofs.Marks.{all_marked, marked_more}
use Rattle.c_rules_effects.proofs.table.marked.Goals as goal

pub loop-number-preserved : goal.loop-number-preserved
loop-number-preserved c = record {
  size = ap length c.mark.ensures ∙ length-set c.loop-number.table.items _ true ∙ c.loop-number.invariant.size;
  marks = λ k below.
      ap (λ xs. get_or xs k false) c.mark.ensures
      ∙ marked_more c.loop-number.table.items c.args.numbers.now c.loop-number.number-index c.args.count c.loop-number-test.true c.loop-number.invariant.size
      c.loop-number.invariant.marks k below;
}

pub returns : goal.returns
returns c =
    all_marked c.loop-number.table.items c.args.numbers.now c.loop-number.number-index c.args.count c.loop-number-test.false c.loop-number.invariant.size
    c.loop-number.invariant.marks
