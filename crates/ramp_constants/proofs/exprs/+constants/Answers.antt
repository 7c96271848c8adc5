use Rattle.std.proofs.Common.{arith}
use Rattle.ramp_constants.proofs.ConstantForms.{more_args}
use Rattle.ramp_constants.proofs.exprs.+constants.Goals as goal

pub add_args-loop-arg-preserved : goal.add_args-loop-arg-preserved
add_args-loop-arg-preserved t c =
    more_args c.args.constants.now.items c.loop-arg.constants.items c.add_expr.new.constants.items c.as_slice-arg-items.result.now c.loop-arg.arg-index c.arg-item.result
    (omega arith) c.arg-item.is c.loop-arg.invariant c.in_ok-add_expr.ensures
