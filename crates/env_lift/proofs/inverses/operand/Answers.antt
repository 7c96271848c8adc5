use Rattle.num_api.proofs.Parts.{none_of}
use Rattle.env_lift.proofs.Changing.{some_map}
use Rattle.env_lift.proofs.Inverting.{negated_back}
use Rattle.env_lift.proofs.inverses.operand.Goals as goal

pub returns-in-Neg-clause-some : goal.returns-in-Neg-clause-some
returns-in-Neg-clause-some g c = some_map _ _ c.meet.result c.meet.ensures.some (λ d f x n p e v. f x p (c.unary.ensures.holds n x v (negated_back c.args.op x n c.in-Neg.is e)))

pub returns-in-Neg-clause-none : goal.returns-in-Neg-clause-none
returns-in-Neg-clause-none g c = none_of _ _ c.meet.result c.meet.ensures.none (λ f x n p e v. f x p (c.unary.ensures.holds n x v (negated_back c.args.op x n c.in-Neg.is e)))
