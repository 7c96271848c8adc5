use Rattle.c_sites.proofs.SitedSame as lemmas
use Rattle.c_sites.proofs.laws.checks_are_sited.Goals as goal

pub returns : goal.returns
returns c = lemmas.checks_are_sited
