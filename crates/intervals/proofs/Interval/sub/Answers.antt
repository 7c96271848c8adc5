use Rattle.intervals.proofs.Arithmetic.{difference_least, difference_low, difference_high, difference_holds}
use Rattle.intervals.proofs.EachEnd.{difference_low_is, difference_high_is}
use Rattle.intervals.proofs.Interval.sub.Goals as goal

pub returns-clause-keeps : goal.returns-clause-keeps
returns-clause-keeps c = λ x y p q.
    rw (c.sub_low.ensures, c.sub_high.ensures)
    (difference_low _ _ x y p.0 q.1, difference_high _ _ x y p.1 q.0)

pub invariant_of-result : goal.invariant_of-result
invariant_of-result c =
    let i = c.args.self.now in
    let j = c.args.other.now in
    record { holds = rw (c.sub_low.ensures, c.sub_high.ensures) (difference_holds i.lo i.hi j.lo j.hi i.holds j.holds) }

pub returns-clause-least : goal.returns-clause-least
returns-clause-least c = λ l h f g first second within.
    rw (c.sub_low.ensures, c.sub_high.ensures)
    (difference_least l h f g _ _ _ _ first.0 first.1 second.0 second.1 c.args.self.now.holds c.args.other.now.holds within)

pub returns-clause-low : goal.returns-clause-low
returns-clause-low c = λ p q. difference_low_is _ _ _ p q c.sub_low.ensures

pub returns-clause-high : goal.returns-clause-high
returns-clause-high c = λ p q. difference_high_is _ _ _ p q c.sub_high.ensures
