use Rattle.std.proofs.lemmas.Result.{IfOk-weaker}
use Rattle.octagons_changes.proofs.relations.Relations.assume.Goals as goal

pub returns : goal.returns
returns g c = IfOk-weaker c.meet.result _ _ (λ live p v n h a e t. p v h a (c.limits_of.ensures v n e t)) c.meet.ensures
