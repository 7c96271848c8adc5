use Rattle.csharp_laws.proofs.Stays as stays
use Rattle.csharp_laws.proofs.laws.other_temps_stay.Goals as goal

pub returns : goal.returns
returns c = stays.temps_stay
