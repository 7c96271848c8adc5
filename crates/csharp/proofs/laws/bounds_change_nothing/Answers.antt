use Rattle.csharp.proofs.Kept as kept
use Rattle.csharp.proofs.laws.bounds_change_nothing.Goals as goal

pub returns : goal.returns
returns c = kept.bound_is_same
