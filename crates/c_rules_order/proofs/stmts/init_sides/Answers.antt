use Rattle.std.proofs.Common.{arith}
use Rattle.c_rules_order.proofs.Forms.{more_init_sides, more_inits}
use Rattle.c_rules_order.proofs.stmts.init_sides.Goals as goal

pub loop-init-preserved : goal.loop-init-preserved
loop-init-preserved c = record {
  sides = more_init_sides c.loop-init.sides.items c.push.new.self.items c.as_slice-init-items.result.now c.loop-init.init-index c.init-item.result c.in_ok-side.side
      (omega arith) c.init-item.is c.loop-init.invariant.sides c.in_ok-side.ensures.side c.in_ok-push.ensures.items;
  found = more_inits c.args.known.now c.args.found.now c.loop-init.found c.walk_init.new.found c.as_slice-init-items.result.now c.loop-init.init-index c.init-item.result
      (omega arith) c.init-item.is c.loop-init.invariant.found c.in_ok-side.ensures.found;
}
