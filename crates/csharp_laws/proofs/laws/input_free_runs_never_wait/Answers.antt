use Rattle.csharp_laws.proofs.Quiet as lemmas
use Rattle.csharp_laws.proofs.laws.input_free_runs_never_wait.Goals as goal

pub returns : goal.returns
returns c = lemmas.never_waits
