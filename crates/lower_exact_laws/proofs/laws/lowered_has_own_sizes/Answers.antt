use Rattle.lower_exact_laws.proofs.Sizes as lemmas
use Rattle.lower_exact_laws.proofs.laws.lowered_has_own_sizes.Goals as goal

pub returns : goal.returns
returns c = lemmas.lowered_has_own_sizes
