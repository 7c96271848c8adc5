use Rattle.lower_sites_laws.proofs.Whole as lemmas
use Rattle.lower_sites_laws.proofs.laws.lowered_checks_are_of_one_form.Goals as goal

pub returns : goal.returns
returns c = lemmas.lowered_checks_are_of_one_form
