use Rattle.csharp.proofs.Samples as samples
use Rattle.csharp.proofs.laws.samples_end.Goals as goal

pub returns : goal.returns
returns c = samples.samples_end
