use Rattle.csharp_laws.proofs.Stays as stays
use Rattle.csharp_laws.proofs.laws.objects_stay.Goals as goal

pub returns : goal.returns
returns c = stays.places_stay
