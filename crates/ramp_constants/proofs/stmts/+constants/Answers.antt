use Rattle.std.proofs.Common.{◌≡◌, ◌+◌, ◌*◌, ◌++◌, ap, subst, ◌∙◌, arith}
use Rattle.std.specs.Prelude.{OnOk, option_map}
use Rattle.c_syntax.specs.TypedExpr.{texpr_tree}
use Rattle.c_syntax.specs.TypedStmt.{tstmt_tree, tstmts_tree}
use Rattle.c_syntax.specs.Sizes.{tstmt_size, tstmts_size}
use Rattle.ramp_constants.specs.Constants.{constants_if_there, constants_in_items, constants_in_stmt}
use Rattle.ramp_constants.proofs.ConstantForms.{more_items, for_constants, for_falls, four_joined}
use Rattle.ramp_constants.proofs.stmts.+constants.Goals as goal

pub add_items-loop-item-preserved : goal.add_items-loop-item-preserved
add_items-loop-item-preserved t c =
    more_items c.args.constants.now.items c.loop-item.constants.items c.add_stmt.new.constants.items c.as_slice-item-items.result.now c.loop-item.item-index c.item-item.result
    (omega arith) c.item-item.is c.loop-item.invariant c.in_ok-add_stmt.ensures

pub add_stmt-add_for-requires : goal.add_stmt-add_for-requires
add_stmt-add_for-requires t c =
    let falls = for_falls c.args.stmt.now c.in-For.pos c.in-For.objects c.in-For.head c.in-For.condition c.in-For.step c.in-For.body c.in-For.is in
    let same = ap (λ body. 5 * (tstmts_size (tstmts_tree c.in-For.head) + tstmt_size (tstmt_tree body)) + 3) c.deref-in-For.ensures in
    (omega (arith, c.decreases, falls, same), tt)

pub add_stmt-returns-in-For : goal.add_stmt-returns-in-For
add_stmt-returns-in-For t c =
    subst (λ more. OnOk c.add_for.result (c.add_for.new.constants.items ≡ more))
    (four_joined c.args.constants.now.items _ _ _ _
    ∙ ap (λ body. c.args.constants.now.items ++ (constants_in_items (tstmts_tree c.in-For.head) ++ constants_if_there (option_map texpr_tree c.in-For.condition)
    ++ constants_if_there (option_map texpr_tree c.in-For.step) ++ constants_in_stmt (tstmt_tree body))) c.deref-in-For.ensures
    ∙ ap (λ more. c.args.constants.now.items ++ more)
    (for_constants c.args.stmt.now c.in-For.pos c.in-For.objects c.in-For.head c.in-For.condition c.in-For.step c.in-For.body c.in-For.is))
    c.add_for.ensures
