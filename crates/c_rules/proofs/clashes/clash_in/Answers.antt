use Rattle.std.proofs.Common.{None, [], sym, ap, ◌∙◌}
use Rattle.std.specs.Prelude.{option_map, unwrap_or}
use Rattle.c_syntax.specs.TypedStmt.{tstmt_tree}
use Rattle.c_rules_order.specs.Firsts.{or_first}
use Rattle.c_rules_order.specs.Sides.{compared_in_stmt}
use Rattle.c_rules_order.proofs.FirstFound.{or_none}
use Rattle.c_rules.proofs.clashes.clash_in.Goals as goal

pub returns-in-None : goal.returns-in-None
returns-in-None c =
    sym (ap (λ body. or_first c.args.known.now None (unwrap_or (option_map compared_in_stmt (option_map tstmt_tree body)) [])) c.in-None.is
    ∙ or_none c.args.known.now None)
