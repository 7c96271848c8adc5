use Rattle.c_syntax.specs.TypedExpr.{texpr_tree, tlvalue_tree}
use Rattle.c_rules_order.specs.Sides.{stored_beside, two}
use Rattle.c_rules_order.proofs.FirstFound.{or_then}
use Rattle.c_rules_order.proofs.compare.join_stored.Goals as goal

pub returns-clause-found : goal.returns-clause-found
returns-clause-found c =
    or_then c.args.known.now c.args.found.now c.join_compared.new.found c.compare_stored.new.found (two c.args.pos c.args.side.now c.args.right.now)
    (stored_beside c.args.pos (tlvalue_tree c.args.place.now) (texpr_tree c.args.value.now))
    c.in_ok-join_compared.ensures.found c.in_ok-compare_stored.ensures
