use Rattle.lower_exact_laws.proofs.Carried as lemmas
use Rattle.lower_exact_laws.proofs.laws.exact_analyses_carry_over.Goals as goal

pub returns : goal.returns
returns c = lemmas.exact_analyses_carry_over c.lowered_has_one_default.ensures c.lowered_has_own_sizes.ensures c.bounded_runs_are_told.ensures
