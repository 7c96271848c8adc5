use Rattle.c_sites.proofs.CallStand as lemmas
use Rattle.c_sites.proofs.laws.calls_stand_at_sites.Goals as goal

pub returns : goal.returns
returns c = lemmas.calls_stand_at_sites
