use Rattle.std.proofs.Common.{subst, ◌+ℤ◌}
use Rattle.ext_int.specs.Ext.{Below}
use Rattle.octagons_linear.specs.Forms.{signed_value}
use Rattle.octagons_told.proofs.Signs.{turned-sum}
use Rattle.octagons_told.proofs.ranges.sum_range.Goals as goal

pub returns-clause-holds : goal.returns-clause-holds
returns-clause-holds c = λ v h.
    let x = signed_value v c.args.s in let y = signed_value v c.args.t in
    let a = signed_value v c.opposite.result in let b = signed_value v c.opposite-2.result in
    record {
      low = subst (Below c.neg_low.result) (turned-sum x y a b (c.opposite.ensures.value v) (c.opposite-2.ensures.value v)) (c.neg_low.ensures.bound (a +ℤ b) (c.sum_bound.ensures.above v h));
      high = c.sum_bound-2.ensures.above v h;
    }
