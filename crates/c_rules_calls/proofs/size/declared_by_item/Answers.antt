use Rattle.c_rules_calls.proofs.Counts.{not_an_expression}
use Rattle.c_rules_calls.proofs.size.declared_by_item.Goals as goal

pub returns-in_default : goal.returns-in_default
returns-in_default c = not_an_expression c.args.item.now c.in_default.not-Expr
