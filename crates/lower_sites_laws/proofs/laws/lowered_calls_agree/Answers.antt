use Rattle.lower_sites_laws.proofs.Whole as lemmas
use Rattle.lower_sites_laws.proofs.laws.lowered_calls_agree.Goals as goal

pub returns : goal.returns
returns c = lemmas.lowered_calls_agree c.calls_agree.ensures
