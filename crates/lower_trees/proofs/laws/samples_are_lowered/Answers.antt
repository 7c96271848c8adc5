use Rattle.lower_trees.proofs.Samples as lemmas
use Rattle.lower_trees.proofs.laws.samples_are_lowered.Goals as goal

pub returns : goal.returns
returns c = lemmas.samples_come_to
