use Rattle.lower_places_laws.proofs.Fixed as lemmas
use Rattle.lower_places_laws.proofs.laws.named_places_are_fixed.Goals as goal

pub returns : goal.returns
returns c = lemmas.named_places_are_fixed
