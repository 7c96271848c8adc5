use Rattle.csharp_laws.proofs.Enough as enough
use Rattle.csharp_laws.proofs.laws.fuel_is_enough.Goals as goal

pub returns : goal.returns
returns c = enough.fuel_is_enough
