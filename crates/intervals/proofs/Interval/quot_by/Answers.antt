use Rattle.intervals.proofs.Corners.{quotient_corners_low, quotient_corners_high}
use Rattle.intervals.proofs.Arithmetic.{quotient_least, quotient_holds}
use Rattle.intervals.proofs.Interval.quot_by.Goals as goal

pub returns-clause-keeps : goal.returns-clause-keeps
returns-clause-keeps c = λ x y p q.
    rw (c.least_quotient.ensures, c.greatest_quotient.ensures)
    (quotient_corners_low _ _ _ _ x y p.0 p.1 q.0 q.1 c.requires, quotient_corners_high _ _ _ _ x y p.0 p.1 q.0 q.1 c.requires)

pub invariant_of-result : goal.invariant_of-result
invariant_of-result c =
    let i = c.args.self in
    let j = c.args.divisors in
    record { holds = rw (c.least_quotient.ensures, c.greatest_quotient.ensures) (quotient_holds i.lo i.hi j.lo j.hi i.holds j.holds c.requires) }

pub returns-clause-least : goal.returns-clause-least
returns-clause-least c = λ l h f g first second within.
    rw (c.least_quotient.ensures, c.greatest_quotient.ensures)
    (quotient_least l h f g _ _ _ _ first.0 first.1 second.0 second.1 c.args.self.holds c.args.divisors.holds within)
