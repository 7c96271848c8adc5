use Rattle.std.proofs.Common.{◌∙◌, sym}
use Rattle.std.proofs.lemmas.Bool.{false≢true}
use Rattle.std.proofs.lemmas.Result.{IfOk-weaker}
use Rattle.num_api.proofs.PutOut.{adds_none}
use Rattle.machine_nums.proofs.machine.Machine.facts.Goals as goal

pub returns-then-self-clause-kept : goal.returns-then-self-clause-kept
returns-then-self-clause-kept g c = adds_none _

pub returns-then-self-clause-told : goal.returns-then-self-clause-told
returns-then-self-clause-told g c = λ v ad. absurd (false≢true (sym ad.0 ∙ c.if-self.true))

pub returns-clause-told : goal.returns-clause-told
returns-clause-told g c = IfOk-weaker c.facts.result _ _ (λ u h v ad. h v ad.1) c.facts.ensures.told
