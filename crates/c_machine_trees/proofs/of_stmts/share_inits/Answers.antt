use Rattle.std.proofs.Common.{ap, ◌∙◌, arith}
use Rattle.c_machine_trees.specs.Statements.{inits_from}
use Rattle.c_machine_trees.proofs.Shared.{one_more_init}
use Rattle.c_machine_trees.proofs.of_stmts.share_inits.Goals as goal

pub loop-item-preserved : goal.loop-item-preserved
loop-item-preserved c =
    ap inits_from c.in_ok-push.ensures.items
    ∙ one_more_init c.loop-item.items.items c.as_slice-item-items.result.now c.loop-item.item-index c.in_ok-share_init.field-0 c.item-item.result
    (omega arith) c.loop-item.invariant c.item-item.is c.in_ok-share_init.ensures
