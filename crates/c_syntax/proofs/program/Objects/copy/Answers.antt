use Rattle.std.proofs.Common.{map, ap, ◌∙◌, arith}
use Rattle.c_syntax.specs.Types.{object_tree}
use Rattle.c_syntax.proofs.Copies.{one_more}
use Rattle.c_syntax.proofs.program.Objects.copy.Goals as goal

pub loop-item-preserved : goal.loop-item-preserved
loop-item-preserved c =
    ap (map object_tree) c.in_ok-push.ensures.items
    ∙ one_more object_tree c.loop-item.items.items c.deref-item-items.result.now c.loop-item.item-index c.in_ok-copy.field-0 c.item-item.result (omega arith) c.loop-item.invariant c.item-item.is c.in_ok-copy.ensures
