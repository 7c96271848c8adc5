use Rattle.std.proofs.Common.{ap, ◌∙◌, arith}
use Rattle.csharp.specs.Trees.{csstmts_from}
use Rattle.csharp.proofs.Copied.{one_more_stmt}
use Rattle.csharp.proofs.copied_stmts.+copies.Goals as goal

pub copy_stmts-loop-item-preserved : goal.copy_stmts-loop-item-preserved
copy_stmts-loop-item-preserved t c =
    ap csstmts_from c.in_ok-push.ensures.items
    ∙ one_more_stmt c.loop-item.items.items c.as_slice-item-items.result.now c.loop-item.item-index c.in_ok-copy_stmt.field-0 c.item-item.result
    (omega arith) c.loop-item.invariant c.item-item.is c.in_ok-copy_stmt.ensures
