use Rattle.lower_formed.proofs.Whole as lemmas
use Rattle.lower_formed.proofs.laws.lowered_leads_forward.Goals as goal

pub returns : goal.returns
returns c = lemmas.lowered_leads_forward
