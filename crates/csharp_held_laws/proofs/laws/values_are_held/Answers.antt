use Rattle.csharp_held_laws.proofs.Values as values
use Rattle.csharp_held_laws.proofs.laws.values_are_held.Goals as goal

pub returns : goal.returns
returns c = values.values_held
