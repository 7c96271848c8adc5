use Rattle.csharp_typed_laws.proofs.Stays as stays
use Rattle.csharp_typed_laws.proofs.laws.pointers_stay_whole.Goals as goal

pub returns : goal.returns
returns c = stays.stay_whole
