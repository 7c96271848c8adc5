use Rattle.csharp_held_laws.proofs.Begun as begun
use Rattle.csharp_held_laws.proofs.laws.starts_are_held.Goals as goal

pub returns : goal.returns
returns c = begun.starts_held
