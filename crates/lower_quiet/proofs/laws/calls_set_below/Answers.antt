use Rattle.lower_quiet.proofs.Callees as lemmas
use Rattle.lower_quiet.proofs.laws.calls_set_below.Goals as goal

pub returns : goal.returns
returns c = lemmas.calls_set_below
