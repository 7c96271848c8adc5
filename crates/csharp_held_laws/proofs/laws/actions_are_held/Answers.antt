use Rattle.csharp_held_laws.proofs.Actions as actions
use Rattle.csharp_held_laws.proofs.laws.actions_are_held.Goals as goal

pub returns : goal.returns
returns c = actions.actions_held
