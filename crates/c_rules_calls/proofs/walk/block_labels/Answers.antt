use Rattle.std.proofs.Common.{◌++◌, sym, ap, ◌∙◌}
use Rattle.c_syntax.specs.TypedStmt.{tstmt_tree}
use Rattle.c_rules_calls.specs.Gotos.{own_label}
use Rattle.c_rules_calls.proofs.Lists.{labels_nil, more_labels}
use Rattle.c_rules_calls.proofs.walk.block_labels.Goals as goal

pub loop-item-init : goal.loop-item-init
loop-item-init c = c.new-labels.ensures ∙ labels_nil

pub loop-item-preserved : goal.loop-item-preserved
loop-item-preserved c =
    c.in_ok-labels.ensures ∙ ap (λ front. front ++ own_label (tstmt_tree c.item-item.result)) c.loop-item.invariant
    ∙ sym (more_labels c.as_slice-item-items.result.now c.loop-item.item-index c.item-item.result c.loop-item-test.true c.item-item.is)
