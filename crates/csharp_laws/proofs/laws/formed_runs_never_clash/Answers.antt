use Rattle.csharp_laws.proofs.Separated as separated
use Rattle.csharp_laws.proofs.laws.formed_runs_never_clash.Goals as goal

pub returns : goal.returns
returns c = separated.formed_runs_never_clash
