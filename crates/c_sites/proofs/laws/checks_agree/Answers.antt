use Rattle.c_sites.proofs.SitedStand as lemmas
use Rattle.c_sites.proofs.laws.checks_agree.Goals as goal

pub returns : goal.returns
returns c = lemmas.checks_agree
