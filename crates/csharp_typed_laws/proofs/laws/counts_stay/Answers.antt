use Rattle.csharp_typed_laws.proofs.Counts as counts
use Rattle.csharp_typed_laws.proofs.laws.counts_stay.Goals as goal

pub returns : goal.returns
returns c = counts.counts_stay
