use Rattle.csharp_typed_laws.proofs.Steps as steps
use Rattle.csharp_typed_laws.proofs.laws.values_are_typed.Goals as goal

pub returns : goal.returns
returns c = steps.values_are_typed
