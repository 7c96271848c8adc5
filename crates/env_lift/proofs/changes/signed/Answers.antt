use Rattle.std.proofs.Common.{ap, of_z}
use mir.Syntax.{w8}
use Rattle.env_lift.proofs.Inverting.{negated_by_sign}
use Rattle.env_lift.proofs.changes.signed.Goals as goal

pub returns-else-sign-eq1 : goal.returns-else-sign-eq1
returns-else-sign-eq1 g c = λ n h. c.unary.ensures.holds n _ h (negated_by_sign c.args.sign n c.requires (λ e. c.if-sign-eq1.false (ap (of_z w8) e)))
