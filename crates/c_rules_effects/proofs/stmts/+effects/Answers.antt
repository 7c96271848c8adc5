use Rattle.std.proofs.Common.{◌≡◌, ◌+◌, ◌*◌, sym, ap, subst, ◌∙◌, arith}
use Rattle.std.specs.Prelude.{OnOk, option_map}
use Rattle.c_syntax.specs.TypedExpr.{texpr_tree}
use Rattle.c_syntax.specs.TypedStmt.{tstmt_tree, tstmts_tree}
use Rattle.c_syntax.specs.Sizes.{tstmt_size, tstmts_size}
use Rattle.c_rules_effects.specs.Effects.{effects_if_there, effects_in, effects_in_items}
use Rattle.c_rules_effects.specs.Joined.{joined}
use Rattle.c_rules_effects.proofs.Forms.{for_effects, for_falls, more_items}
use Rattle.c_rules_effects.proofs.stmts.+effects.Goals as goal

pub add_items-loop-item-preserved : goal.add_items-loop-item-preserved
add_items-loop-item-preserved t c =
    more_items c.args.known.now c.args.effects.now c.loop-item.effects c.add_stmt.new.effects c.as_slice-item-items.result.now c.loop-item.item-index c.item-item.result
    (omega arith) c.item-item.is c.loop-item.invariant c.in_ok-add_stmt.ensures

pub add_stmt-add_for-requires : goal.add_stmt-add_for-requires
add_stmt-add_for-requires t c =
    let falls = for_falls c.args.stmt.now c.in-For.pos c.in-For.objects c.in-For.head c.in-For.condition c.in-For.step c.in-For.body c.in-For.is in
    let same = ap (λ body. 5 * (tstmts_size (tstmts_tree c.in-For.head) + tstmt_size (tstmt_tree body)) + 3) c.deref-in-For.ensures in
    (omega (arith, c.decreases, falls, same), tt)

pub add_stmt-returns-in-For : goal.add_stmt-returns-in-For
add_stmt-returns-in-For t c =
    let known = c.args.known.now in
    subst (λ more. OnOk c.add_for.result (c.add_for.new.effects ≡ joined c.args.effects.now more))
    (ap (λ body. joined (joined (joined (effects_in_items known (tstmts_tree c.in-For.head)) (effects_if_there known (option_map texpr_tree c.in-For.condition)))
    (effects_if_there known (option_map texpr_tree c.in-For.step))) (effects_in known (tstmt_tree body))) c.deref-in-For.ensures
    ∙ for_effects known c.args.stmt.now c.in-For.pos c.in-For.objects c.in-For.head c.in-For.condition c.in-For.step c.in-For.body c.in-For.is)
    c.add_for.ensures
