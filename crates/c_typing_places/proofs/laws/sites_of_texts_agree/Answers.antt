use Rattle.c_typing_places.proofs.FileSites as lemmas
use Rattle.c_typing_places.proofs.laws.sites_of_texts_agree.Goals as goal

pub returns : goal.returns
returns c = lemmas.sites_of_texts_agree
