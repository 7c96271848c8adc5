use Rattle.csharp_typed_laws.proofs.Stays as stays
use Rattle.csharp_typed_laws.proofs.laws.typed_states_stay_typed.Goals as goal

pub returns-clause-stay : goal.returns-clause-stay
returns-clause-stay c = stays.stays_typed

pub returns-clause-bodies : goal.returns-clause-bodies
returns-clause-bodies c = stays.bodies_typed

pub returns-clause-runs : goal.returns-clause-runs
returns-clause-runs c = stays.runs_typed
