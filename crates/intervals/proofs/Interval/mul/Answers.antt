use Rattle.intervals.proofs.Corners.{product_corners_low, product_corners_high}
use Rattle.intervals.proofs.Arithmetic.{product_least, product_holds}
use Rattle.intervals.proofs.Interval.mul.Goals as goal

pub returns-clause-keeps : goal.returns-clause-keeps
returns-clause-keeps c = λ x y p q.
    rw (c.least_product.ensures, c.greatest_product.ensures)
    (product_corners_low _ _ _ _ x y p.0 p.1 q.0 q.1, product_corners_high _ _ _ _ x y p.0 p.1 q.0 q.1)

pub invariant_of-result : goal.invariant_of-result
invariant_of-result c =
    let i = c.args.self.now in
    let j = c.args.other.now in
    record { holds = rw (c.least_product.ensures, c.greatest_product.ensures) (product_holds i.lo i.hi j.lo j.hi i.holds j.holds) }

pub returns-clause-least : goal.returns-clause-least
returns-clause-least c = λ l h f g first second within.
    rw (c.least_product.ensures, c.greatest_product.ensures)
    (product_least l h f g _ _ _ _ first.0 first.1 second.0 second.1 c.args.self.now.holds c.args.other.now.holds within)
