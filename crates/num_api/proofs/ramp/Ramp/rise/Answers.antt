use Rattle.std.proofs.Common.{ℤ, subst}
use Rattle.std.proofs.lemmas.Int.{to_z-of_z}
use mir.Syntax.{w128}
use Rattle.num_api.proofs.StepLemmas.{least-IfSome}
use Rattle.num_api.proofs.ramp.Ramp.rise.Goals as goal

pub returns-clause-small : goal.returns-clause-small
returns-clause-small g c = least-IfSome g.S.Steps.list c.args.n c.up.result c.requires.told.small
    (c.requires.told.least_step c.args.n c.up.result c.requires.small
    (subst (λ (x : ℤ). g.U.Fn.post c.args.self.now.up (x, tt) c.up.result) (to_z-of_z w128 c.args.n c.ranges.n) c.up.ensures))
