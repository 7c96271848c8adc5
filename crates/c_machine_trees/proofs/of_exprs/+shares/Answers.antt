use Rattle.std.proofs.Common.{ap, ◌∙◌, arith}
use Rattle.c_machine_trees.specs.Expressions.{exprs_from}
use Rattle.c_machine_trees.proofs.Shared.{one_more_expr}
use Rattle.c_machine_trees.proofs.Shapes.{no_assignment, no_operation, no_operations, no_use}
use Rattle.c_machine_trees.proofs.of_exprs.+shares.Goals as goal

pub share_exprs-loop-item-preserved : goal.share_exprs-loop-item-preserved
share_exprs-loop-item-preserved t c =
    ap exprs_from c.in_ok-push.ensures.items
    ∙ one_more_expr c.loop-item.items.items c.as_slice-item-items.result.now c.loop-item.item-index c.in_ok-shared_expr.field-0 c.item-item.result
    (omega arith) c.loop-item.invariant c.item-item.is c.in_ok-shared_expr.ensures

pub share_use-unreachable-requires : goal.share_use-unreachable-requires
share_use-unreachable-requires t c =
    no_use c.args.expr.now c.requires c.in_default.not-Load c.in_default.not-AddressOf c.in_default.not-Decay c.in_default.not-Whole c.in_default.not-Step

pub share_operation-unreachable-requires : goal.share_operation-unreachable-requires
share_operation-unreachable-requires t c =
    no_operation c.args.expr.now c.requires c.in_default.not-Unary c.in_default.not-Convert c.in_default.not-Assume c.in_default.not-Assert

pub share_operations-unreachable-requires : goal.share_operations-unreachable-requires
share_operations-unreachable-requires t c =
    no_operations c.args.expr.now c.requires c.in_default.not-Binary c.in_default.not-And c.in_default.not-Or c.in_default.not-Comma c.in_default.not-Cond

pub share_assignment-unreachable-requires : goal.share_assignment-unreachable-requires
share_assignment-unreachable-requires t c =
    no_assignment c.args.expr.now c.requires c.in_default.not-Assign c.in_default.not-AssignStruct c.in_default.not-Compound
