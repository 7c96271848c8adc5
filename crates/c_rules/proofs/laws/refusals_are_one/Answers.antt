use Rattle.c_rules.proofs.Outcomes.{same_refusal}
use Rattle.c_rules.proofs.laws.refusals_are_one.Goals as goal

pub returns : goal.returns
returns c = same_refusal c.orders_exclude_closed_lists.ensures
