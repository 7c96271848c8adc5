use Rattle.c_rules_calls.proofs.Falling.{never_closed}
use Rattle.c_rules_calls.proofs.laws.orders_exclude_closed_lists.Goals as goal

pub returns : goal.returns
returns c = λ graph order calls o closed. never_closed graph order calls o closed
