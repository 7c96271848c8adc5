use Rattle.csharp_laws.proofs.Ranks as lemmas
use Rattle.csharp_laws.proofs.laws.formed_ranks_are_small.Goals as goal

pub returns : goal.returns
returns c = lemmas.formed_ranks_are_small
