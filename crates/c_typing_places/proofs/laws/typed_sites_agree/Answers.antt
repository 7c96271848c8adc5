use Rattle.c_typing_places.proofs.FileSites as lemmas
use Rattle.c_typing_places.proofs.laws.typed_sites_agree.Goals as goal

pub returns : goal.returns
returns c = lemmas.typed_sites_agree
