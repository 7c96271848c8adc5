use Rattle.c_syntax.specs.TypedExpr.{tlvalue_tree}
use Rattle.c_rules_effects.specs.Joined.{read_at}
use Rattle.c_rules_effects.specs.Places.{place_of}
use Rattle.c_rules_order.specs.Made.{only}
use Rattle.c_rules_order.specs.Sides.{two}
use Rattle.c_rules_order.proofs.FirstFound.{or_then}
use Rattle.c_rules_order.proofs.compare.join_changed.Goals as goal

pub returns-clause-found : goal.returns-clause-found
returns-clause-found c =
    or_then c.args.known.now c.args.found.now c.join_compared.new.found c.compare_read.new.found (two c.args.pos c.args.side.now c.args.right.now)
    (two c.args.pos (only (read_at (place_of (tlvalue_tree c.args.place.now)))) c.args.right.now)
    c.in_ok-join_compared.ensures.found c.in_ok-compare_read.ensures
