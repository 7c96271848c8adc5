use Rattle.std.proofs.Common.{ap, ◌∙◌, arith}
use Rattle.c_machine_trees.specs.Statements.{stmts_from}
use Rattle.c_machine_trees.proofs.For.{for_falls, for_tree}
use Rattle.c_machine_trees.proofs.Shared.{one_more_stmt}
use Rattle.c_machine_trees.proofs.Shapes.{no_guarded}
use Rattle.c_machine_trees.proofs.of_stmts.+shares.Goals as goal

pub share_stmts-loop-item-preserved : goal.share_stmts-loop-item-preserved
share_stmts-loop-item-preserved t c =
    ap stmts_from c.in_ok-push.ensures.items
    ∙ one_more_stmt c.loop-item.items.items c.as_slice-item-items.result.now c.loop-item.item-index c.in_ok-shared_stmt.field-0 c.item-item.result
    (omega arith) c.loop-item.invariant c.item-item.is c.in_ok-shared_stmt.ensures

pub share_stmt-share_for-requires : goal.share_stmt-share_for-requires
share_stmt-share_for-requires t c =
    let falls = for_falls c.args.stmt.now c.in-For.pos c.in-For.objects c.in-For.head c.in-For.condition c.in-For.step c.in-For.body c.in-For.is in
    rw c.deref.ensures (omega (arith, falls, c.decreases), tt)

pub share_stmt-returns-in-For : goal.share_stmt-returns-in-For
share_stmt-returns-in-For t c =
    rw (for_tree c.args.stmt.now c.in-For.pos c.in-For.objects c.in-For.head c.in-For.condition c.in-For.step c.in-For.body c.in-For.is)
    (rw c.deref.ensures at c.share_for.ensures)

pub share_guarded-unreachable-requires : goal.share_guarded-unreachable-requires
share_guarded-unreachable-requires t c = no_guarded c.args.stmt.now c.requires c.in_default.not-If c.in_default.not-While c.in_default.not-DoWhile
