use Rattle.lower_exact_laws.proofs.Defaults as lemmas
use Rattle.lower_exact_laws.proofs.laws.lowered_has_one_default.Goals as goal

pub returns : goal.returns
returns c = lemmas.lowered_has_one_default
