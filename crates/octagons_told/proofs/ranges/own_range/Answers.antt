use Rattle.std.proofs.Common.{subst}
use Rattle.ext_int.specs.Ext.{Below}
use Rattle.octagons_linear.specs.Forms.{signed_value}
use Rattle.octagons_told.proofs.Signs.{turned-twice}
use Rattle.octagons_told.proofs.ranges.own_range.Goals as goal

pub returns-clause-holds : goal.returns-clause-holds
returns-clause-holds c = λ v h.
    let x = signed_value v c.args.s in
    let y = signed_value v c.opposite-other.result in
    record {
      low = subst (Below c.neg_low.result) (turned-twice x y (c.opposite-other.ensures.value v)) (c.neg_low.ensures.bound y ((c.half_floor.ensures.above y).1 (c.sum_bound.ensures.above v h)));
      high = (c.half_floor-2.ensures.above x).1 (c.sum_bound-2.ensures.above v h);
    }
