use Rattle.std.proofs.Common.{length, [], refl, subst}
use Rattle.std.proofs.Math.ListN.{drop_of_length-le}
use Rattle.c_syntax.specs.Program.{tprogram_tree}
use Rattle.lower_program.specs.Order.{AreDone}
use Rattle.lower_program.proofs.Orders.{function_more, order_end}
use Rattle.lower_program.proofs.program.lower_order.Goals as goal

pub loop-f-init : goal.loop-f-init
loop-f-init c = record { all = []; are = subst (λ functions. AreDone (length functions) c.in_ok-done.done []) c.as_slice.ensures c.in_ok-done.ensures; rest = refl }

pub loop-f-preserved : goal.loop-f-preserved
loop-f-preserved c =
    function_more (tprogram_tree c.args.program.now) (length c.args.program.now.functions) c.args.order.now c.args.order.now c.loop-f.f-index c.loop-f.done _
    c.loop-f-test.true c.in_ok-lower_one.ensures c.loop-f.invariant

pub returns : goal.returns
returns c =
    order_end (tprogram_tree c.args.program.now) (length c.args.program.now.functions) c.args.order.now _ c.loop-f.done
    (drop_of_length-le c.args.order.now c.loop-f-test.false) c.loop-f.invariant
