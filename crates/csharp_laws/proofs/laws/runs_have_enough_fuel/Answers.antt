use Rattle.csharp_laws.proofs.MainRuns as lemmas
use Rattle.csharp_laws.proofs.laws.runs_have_enough_fuel.Goals as goal

pub returns : goal.returns
returns c = lemmas.runs_have_enough
