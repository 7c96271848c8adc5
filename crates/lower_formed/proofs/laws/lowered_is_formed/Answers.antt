use Rattle.lower_formed.proofs.Whole as lemmas
use Rattle.lower_formed.proofs.laws.lowered_is_formed.Goals as goal

pub returns : goal.returns
returns c = lemmas.lowered_is_formed
