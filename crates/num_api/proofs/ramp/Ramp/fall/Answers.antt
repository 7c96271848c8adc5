use Rattle.std.proofs.Common.{refl, ◌≡◌, ◌∙◌, neg_ℤ, arith, pos, ◌-ℤ◌, to_z, of_z}
use Rattle.std.proofs.lemmas.Int.{ints}
use mir.Syntax.{w128}
use Rattle.num_api.proofs.StepLemmas.{fall-negation, greatest-negated, negated-some}
use Rattle.num_api.proofs.ramp.Ramp.fall.Goals as goal

pub returns-in-Some-clause-negation : goal.returns-in-Some-clause-negation
returns-in-Some-clause-negation g c = fall-negation g.S.Steps.list c.args.n _ _ _ (omega (arith, ints, c.requires.small.low, c.requires.small.high)) c.in-Some.ensures.step
    (negated-some _ _ (omega (arith, ints, c.in-Some.ensures.small.low, c.in-Some.ensures.small.high)))

pub returns-in-Some-clause-step : goal.returns-in-Some-clause-step
returns-in-Some-clause-step g c = returns-in-Some-clause-negation g c ∙ greatest-negated g.S.Steps.list c.args.n c.requires.told.mirrored

pub returns-in-None-clause-step : goal.returns-in-None-clause-step
returns-in-None-clause-step g c = fall-negation g.S.Steps.list c.args.n _ _ _ (omega (arith, ints, c.requires.small.low, c.requires.small.high)) c.in-None.ensures.step refl ∙ greatest-negated g.S.Steps.list c.args.n c.requires.told.mirrored
