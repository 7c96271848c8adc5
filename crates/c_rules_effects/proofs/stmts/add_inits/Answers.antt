use Rattle.std.proofs.Common.{arith}
use Rattle.c_rules_effects.proofs.Forms.{more_inits}
use Rattle.c_rules_effects.proofs.stmts.add_inits.Goals as goal

pub loop-init-preserved : goal.loop-init-preserved
loop-init-preserved c =
    more_inits c.args.known.now c.args.effects.now c.loop-init.effects c.add_init.new.effects c.as_slice-init-items.result.now c.loop-init.init-index c.init-item.result
    (omega arith) c.init-item.is c.loop-init.invariant c.in_ok-add_init.ensures
