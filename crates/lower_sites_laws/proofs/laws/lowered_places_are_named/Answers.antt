use Rattle.lower_sites_laws.proofs.Whole as lemmas
use Rattle.lower_sites_laws.proofs.laws.lowered_places_are_named.Goals as goal

pub returns : goal.returns
returns c = lemmas.lowered_places_are_named
