use Rattle.env_lift.proofs.Changing.{some_map}
use Rattle.env_lift.proofs.cuts.parts.Goals as goal

pub returns-in-Some-clause-some : goal.returns-in-Some-clause-some
returns-in-Some-clause-some g c = some_map _ _ c.sides.result c.sides.ensures.some (λ p f v x y n q e h o w. f v x y q e h (c.in-Some.ensures x y n o w))

pub returns-in_ok-second-in-None-clause-some : goal.returns-in_ok-second-in-None-clause-some
returns-in_ok-second-in-None-clause-some g c = some_map _ _ c.operands.result c.operands.ensures.some
    (λ p f v x y n q e h o w. f x y n (c.in_ok-first-in-None.ensures.some.holds v x q e) (c.in_ok-second-in-None.ensures.some.holds v y q h) o w)
