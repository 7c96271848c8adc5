use Rattle.intervals.proofs.ShiftBounds.{shr_bounds}
use Rattle.intervals.proofs.shift_ranges.shifted_right.Goals as goal

pub returns-clause-bounds : goal.returns-clause-bounds
returns-clause-bounds c = shr_bounds c.args.a.now c.args.b.now c.between.result c.least_quotient.result c.greatest_quotient.result c.between.ensures.ends
    c.least_quotient.ensures.holds c.greatest_quotient.ensures.holds c.least_quotient.ensures.least c.greatest_quotient.ensures.least
