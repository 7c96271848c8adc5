use Rattle.std.proofs.lemmas.Result.{IfOk-weaker}
use Rattle.machine_nums.proofs.machine.Machine.forget.Goals as goal

pub returns-clause-after : goal.returns-clause-after
returns-clause-after g c = IfOk-weaker c.forget.result _ _ (λ u h v w n ad to. (ad.0, h v w n ad.1 to)) c.forget.ensures.after

pub returns-clause-sharp_others : goal.returns-clause-sharp_others
returns-clause-sharp_others g c = IfOk-weaker c.forget.result _ _ (λ u h v y ex ad apart s. h v y ex ad.1 apart s) c.forget.ensures.sharp_others

pub returns-clause-plain : goal.returns-clause-plain
returns-clause-plain g c = IfOk-weaker c.forget.result _ _ (λ u h given ex under void. h given ex (under void)) c.forget.ensures.plain
