use Rattle.lower_keeps.proofs.Kept as lemmas
use Rattle.lower_keeps.proofs.laws.lowering_is_right.Goals as goal

pub returns : goal.returns
returns c = lemmas.lowering_is_right
