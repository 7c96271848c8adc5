use Rattle.c_sites.proofs.SitedStand as lemmas
use Rattle.c_sites.proofs.laws.checks_stand_at_sites.Goals as goal

pub returns : goal.returns
returns c = lemmas.checks_stand_at_sites
