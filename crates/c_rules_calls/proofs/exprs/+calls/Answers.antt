use Rattle.std.proofs.Common.{arith}
use Rattle.c_rules_calls.proofs.Forms.{more_args}
use Rattle.c_rules_calls.proofs.exprs.+calls.Goals as goal

pub add_args-loop-arg-preserved : goal.add_args-loop-arg-preserved
add_args-loop-arg-preserved t c =
    more_args c.args.calls.now c.loop-arg.calls c.add_expr.new.calls c.as_slice-arg-items.result.now c.loop-arg.arg-index c.arg-item.result
    (omega arith) c.arg-item.is c.loop-arg.invariant c.in_ok-add_expr.ensures
