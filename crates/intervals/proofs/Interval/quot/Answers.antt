use Rattle.std.proofs.Common.{refl}
use Rattle.ext_int.specs.declared.Ext.TheVariants.{Low, High}
use Rattle.intervals.proofs.Parts.{IsBelow, IsAbove, NoneBelow, NoneAbove, Divides, by_negatives, by_positives, by_both, by_none, quotient_point}
use Rattle.intervals.proofs.Interval.quot.Goals as goal
use Rattle.intervals.proofs.Interval.quot.Goals.{in-Some-Some, in-Some-None, in-None-Some, in-None-None}

pub returns : goal.returns
returns c =
    let s = c.args.self.now in
    let o = c.args.other.now in
    elim c.match-negative.branch [
      | in-Some-Some w ↦
          let arm = w.in-Some-Some in
          let below : IsBelow o arm.below = record { numbers = rw arm.is-0 at c.part-negative.ensures.some; ends = rw arm.is-0 at c.part-negative.ensures.ends } in
          let above : IsAbove o arm.above = record { numbers = rw arm.is-1 at c.part-positive.ensures.some; ends = rw arm.is-1 at c.part-positive.ensures.ends } in
          let by_below : Divides s arm.below w.quot_by.result = record { keeps = w.quot_by.ensures.keeps; least = w.quot_by.ensures.least } in
          let by_above : Divides s arm.above w.quot_by-in-Some-Some.result = record { keeps = w.quot_by-in-Some-Some.ensures.keeps; least = w.quot_by-in-Some-Some.ensures.least } in
          let quotient = by_both s o arm.below arm.above w.quot_by.result w.quot_by-in-Some-Some.result w.hull.result below above by_below by_above w.hull.ensures.left w.hull.ensures.right w.hull.ensures.least in
          rw w.result-is (record { keeps = quotient.keeps; point = quotient_point s o _ _ quotient; least = quotient.least })
      | in-Some-None w ↦
          let arm = w.in-Some-None in
          let below : IsBelow o arm.below = record { numbers = rw arm.is-0 at c.part-negative.ensures.some; ends = rw arm.is-0 at c.part-negative.ensures.ends } in
          let none : NoneAbove o = (rw arm.is-1 at c.part-positive.ensures.none).0 refl in
          let by_below : Divides s arm.below w.quot_by-in-Some-None.result = record { keeps = w.quot_by-in-Some-None.ensures.keeps; least = w.quot_by-in-Some-None.ensures.least } in
          let quotient = by_negatives s o arm.below w.quot_by-in-Some-None.result below none by_below in
          rw w.result-is (record { keeps = quotient.keeps; point = quotient_point s o _ _ quotient; least = quotient.least })
      | in-None-Some w ↦
          let arm = w.in-None-Some in
          let above : IsAbove o arm.above = record { numbers = rw arm.is-1 at c.part-positive.ensures.some; ends = rw arm.is-1 at c.part-positive.ensures.ends } in
          let none : NoneBelow o = (rw arm.is-0 at c.part-negative.ensures.none).0 refl in
          let by_above : Divides s arm.above w.quot_by-in-None-Some.result = record { keeps = w.quot_by-in-None-Some.ensures.keeps; least = w.quot_by-in-None-Some.ensures.least } in
          let quotient = by_positives s o arm.above w.quot_by-in-None-Some.result none above by_above in
          rw w.result-is (record { keeps = quotient.keeps; point = quotient_point s o _ _ quotient; least = quotient.least })
      | in-None-None w ↦
          let arm = w.in-None-None in
          let none_below : NoneBelow o = (rw arm.is-0 at c.part-negative.ensures.none).0 refl in
          let none_above : NoneAbove o = (rw arm.is-1 at c.part-positive.ensures.none).0 refl in
          let quotient = by_none s o Low High none_below none_above in
          rw w.result-is (record { keeps = quotient.keeps; point = quotient_point s o _ _ quotient; least = quotient.least })
    ]
