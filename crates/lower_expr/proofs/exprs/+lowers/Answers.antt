use Rattle.std.proofs.Common.{◌≡◌, ap, subst, ◌∙◌}
use Rattle.std.specs.Prelude.{IfOk}
use Rattle.std.proofs.Math.ListN.{drop_of_length-le}
use Rattle.c_syntax.specs.Program.{tprogram_tree}
use Rattle.lower_trees.specs.LowerExpr.{lower_args}
use Rattle.lower_nodes.specs.Parts.{arguments_tree}
use Rattle.lower_expr.proofs.Arguments.{argument_more, arguments_end}
use Rattle.lower_expr.proofs.exprs.+lowers.Goals as goal

pub lower_arguments-loop-item-preserved : goal.lower_arguments-loop-item-preserved
lower_arguments-loop-item-preserved t c =
    argument_more (tprogram_tree c.args.program.now) c.loop-item.gathered c.push.new.self c.as_slice-item-items.result.now c.loop-item.item-index
    c.item-item.result c.in_ok-part.part _ c.loop-item-test.true c.item-item.is c.in_ok-part.ensures c.in_ok-push.ensures.rest
    c.in_ok-push.ensures.next c.loop-item.invariant

pub lower_arguments-returns : goal.lower_arguments-returns
lower_arguments-returns t c =
    subst (λ whole. IfOk c.finish.result (λ args. arguments_tree args ≡ whole))
    (arguments_end (tprogram_tree c.args.program.now) c.loop-item.gathered _ _ (drop_of_length-le c.as_slice-item-items.result.now c.loop-item-test.false)
    c.loop-item.invariant ∙ ap (lower_args (tprogram_tree c.args.program.now) c.args.d) c.as_slice-item-items.ensures)
    c.finish.ensures
