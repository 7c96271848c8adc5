use Rattle.lower_trees.proofs.ZeroBytes as lemmas
use Rattle.lower_trees.proofs.laws.zeros_are_bytes.Goals as goal

pub returns : goal.returns
returns c = lemmas.zeros_are_bytes
