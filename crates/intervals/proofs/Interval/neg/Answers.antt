use Rattle.intervals.proofs.Arithmetic.{negation_least}
use Rattle.intervals.proofs.EachEnd.{negation_low_is, negation_high_is}
use Rattle.intervals.proofs.Interval.neg.Goals as goal

pub returns-clause-least : goal.returns-clause-least
returns-clause-least c = λ l h f g finite within.
    rw (c.neg_low.ensures.value, c.neg_high.ensures.value)
    (negation_least l h f g _ _ finite.0 finite.1 c.args.self.now.holds within)

pub returns-clause-low : goal.returns-clause-low
returns-clause-low c = λ p. negation_low_is _ _ p c.neg_low.ensures.value

pub returns-clause-high : goal.returns-clause-high
returns-clause-high c = λ p. negation_high_is _ _ p c.neg_high.ensures.value
