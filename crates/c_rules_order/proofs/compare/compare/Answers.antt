use Rattle.c_rules_order.proofs.FirstFound.{stays_as}
use Rattle.c_rules_order.proofs.compare.compare.Goals as goal

pub returns-in-Some : goal.returns-in-Some
returns-in-Some c = stays_as c.args.known.now c.args.found.now c.in-Some.field-0 _ c.in-Some.is
