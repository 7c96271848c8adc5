use Rattle.std.proofs.Common.{pos}
use Rattle.num_api.proofs.Parts.{not_only_zero}
use Rattle.env_lift.proofs.evaluation.variable.Goals as goal

pub returns-in-None-clause-zero : goal.returns-in-None-clause-zero
returns-in-None-clause-zero g c = λ p.
    absurd (not_only_zero (g.V.ValueDomain.known c.top.result) p (g.V.ValueDomain.known_holds c.top.result (pos 1) (c.top.ensures (pos 1))))
