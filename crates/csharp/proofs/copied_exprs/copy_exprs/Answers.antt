use Rattle.std.proofs.Common.{map, ap, ◌∙◌, arith}
use Rattle.c_syntax.proofs.Copies.{one_more}
use Rattle.csharp.specs.Trees.{csexpr_tree}
use Rattle.csharp.proofs.copied_exprs.copy_exprs.Goals as goal

pub loop-item-preserved : goal.loop-item-preserved
loop-item-preserved c =
    ap (map csexpr_tree) c.in_ok-push.ensures.items
    ∙ one_more csexpr_tree c.loop-item.items.items c.as_slice-item-items.result.now c.loop-item.item-index c.in_ok-copy_expr.field-0 c.item-item.result
    (omega arith) c.loop-item.invariant c.item-item.is c.in_ok-copy_expr.ensures
