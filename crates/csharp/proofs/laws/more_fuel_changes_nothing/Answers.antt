use Rattle.csharp.proofs.Kept as kept
use Rattle.csharp.proofs.laws.more_fuel_changes_nothing.Goals as goal

pub returns : goal.returns
returns c = kept.more_fuel_is_same
