use Rattle.intervals.proofs.Arithmetic.{sum_least}
use Rattle.intervals.proofs.EachEnd.{sum_low_is, sum_high_is}
use Rattle.intervals.proofs.Interval.add.Goals as goal

pub returns-clause-least : goal.returns-clause-least
returns-clause-least c = λ l h f g first second within.
    rw (c.add_low.ensures.value, c.add_high.ensures.value)
    (sum_least l h f g _ _ _ _ first.0 first.1 second.0 second.1 c.args.self.now.holds c.args.other.now.holds within)

pub returns-clause-low : goal.returns-clause-low
returns-clause-low c = λ p q. sum_low_is _ _ _ p q c.add_low.ensures.value

pub returns-clause-high : goal.returns-clause-high
returns-clause-high c = λ p q. sum_high_is _ _ _ p q c.add_high.ensures.value
