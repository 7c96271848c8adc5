use Rattle.lower_trees.proofs.NamedPlaces as lemmas
use Rattle.lower_trees.proofs.laws.named_places_stay.Goals as goal

pub returns : goal.returns
returns c = lemmas.named_places_stay
