use Rattle.std.proofs.lemmas.Result.{IfOk-weaker}
use Rattle.mem_cell_shows.proofs.assumes.assume.Goals as goal

pub returns-clause-stands : goal.returns-clause-stands
returns-clause-stands g c = IfOk-weaker c.keep_condition.result _ _ (λ live stands objects s v st is has. let k = stands objects s st (v, is, has) in (k.live, k.stands)) c.keep_condition.ensures.stands
