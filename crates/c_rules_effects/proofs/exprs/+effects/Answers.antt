use Rattle.std.proofs.Common.{arith}
use Rattle.c_rules_effects.proofs.Forms.{more_args}
use Rattle.c_rules_effects.proofs.exprs.+effects.Goals as goal

pub add_args-loop-arg-preserved : goal.add_args-loop-arg-preserved
add_args-loop-arg-preserved t c =
    more_args c.args.known.now c.args.effects.now c.loop-arg.effects c.add_expr.new.effects c.as_slice-arg-items.result.now c.loop-arg.arg-index c.arg-item.result
    (omega arith) c.arg-item.is c.loop-arg.invariant c.in_ok-add_expr.ensures
