use Rattle.c_rules.proofs.Outcomes.{not_refused}
use Rattle.c_rules.proofs.laws.admitted_is_not_refused.Goals as goal

pub returns : goal.returns
returns c = λ program e. not_refused c.orders_exclude_closed_lists.ensures program e
