use Rattle.intervals.proofs.Carried.{carries_negation, IsNegation}
use Rattle.intervals.proofs.operators.unary.Goals as goal

pub returns-in-Neg-clause-carries : goal.returns-in-Neg-clause-carries
returns-in-Neg-clause-carries c =
    let negation : IsNegation c.args.a.now c.neg.result = record { keeps = c.neg.ensures.keeps; point = c.neg.ensures.point; least = c.neg.ensures.least } in
    rw c.in-Neg.is (carries_negation c.args.a.now c.neg.result negation)
