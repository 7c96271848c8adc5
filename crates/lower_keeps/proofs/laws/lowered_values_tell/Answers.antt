use Rattle.lower_keeps.proofs.Values as lemmas
use Rattle.lower_keeps.proofs.laws.lowered_values_tell.Goals as goal

pub returns : goal.returns
returns c = lemmas.lowered_values_tell
