use Rattle.intervals.proofs.ShiftBounds.{shl_bounds}
use Rattle.intervals.proofs.shift_ranges.shifted_left.Goals as goal

pub returns-clause-bounds : goal.returns-clause-bounds
returns-clause-bounds c = shl_bounds c.args.a.now c.args.b.now c.between.result c.least_product.result c.greatest_product.result c.between.ensures.ends
    c.least_product.ensures.holds c.greatest_product.ensures.holds c.least_product.ensures.least c.greatest_product.ensures.least
