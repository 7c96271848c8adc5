use Rattle.std.proofs.Common.{◌≡◌, ◌+◌, ◌*◌, ◌++◌, ap, subst, ◌∙◌, arith}
use Rattle.std.specs.Prelude.{OnOk, option_map}
use Rattle.c_syntax.specs.TypedExpr.{texpr_tree}
use Rattle.c_syntax.specs.TypedStmt.{tstmt_tree, tstmts_tree}
use Rattle.c_syntax.specs.Sizes.{tstmt_size, tstmts_size}
use Rattle.c_rules_order.specs.Firsts.{or_first}
use Rattle.c_rules_order.specs.Sides.{compared_if_there, compared_in_items, compared_in_stmt}
use Rattle.c_rules_order.proofs.Forms.{more_items, for_compared, for_falls}
use Rattle.c_rules_order.proofs.stmts.+sides.Goals as goal

pub walk_items-loop-item-preserved : goal.walk_items-loop-item-preserved
walk_items-loop-item-preserved t c =
    more_items c.args.known.now c.args.found.now c.loop-item.found c.walk_stmt.new.found c.as_slice-item-items.result.now c.loop-item.item-index c.item-item.result
    (omega arith) c.item-item.is c.loop-item.invariant c.in_ok-walk_stmt.ensures

pub walk_stmt-walk_for-requires : goal.walk_stmt-walk_for-requires
walk_stmt-walk_for-requires t c =
    let falls = for_falls c.args.stmt.now c.in-For.pos c.in-For.objects c.in-For.head c.in-For.condition c.in-For.step c.in-For.body c.in-For.is in
    let same = ap (λ body. 5 * (tstmts_size (tstmts_tree c.in-For.head) + tstmt_size (tstmt_tree body)) + 3) c.deref-in-For.ensures in
    (omega (arith, c.decreases, falls, same), tt)

pub walk_stmt-returns-in-For : goal.walk_stmt-returns-in-For
walk_stmt-returns-in-For t c =
    subst (λ more. OnOk c.walk_for.result (c.walk_for.new.found ≡ or_first c.args.known.now c.args.found.now more))
    (ap (λ body. compared_in_items (tstmts_tree c.in-For.head) ++ compared_if_there (option_map texpr_tree c.in-For.condition)
    ++ compared_if_there (option_map texpr_tree c.in-For.step) ++ compared_in_stmt (tstmt_tree body)) c.deref-in-For.ensures
    ∙ for_compared c.args.stmt.now c.in-For.pos c.in-For.objects c.in-For.head c.in-For.condition c.in-For.step c.in-For.body c.in-For.is)
    c.walk_for.ensures
