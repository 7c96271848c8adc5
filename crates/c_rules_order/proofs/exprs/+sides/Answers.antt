use Rattle.std.proofs.Common.{◌≡◌, ◌++◌, arith, subst}
use Rattle.c_syntax.specs.TypedExpr.{texpr_tree, tlvalue_tree}
use Rattle.c_rules_effects.specs.Joined.{read_at}
use Rattle.c_rules_effects.specs.Places.{place_of}
use Rattle.c_rules_order.specs.declared.side.Side.{Side}
use Rattle.c_rules_order.specs.Firsts.{or_first}
use Rattle.c_rules_order.specs.Made.{only}
use Rattle.c_rules_order.specs.Sides.{compared_in, side_of, stored_beside, two}
use Rattle.c_rules_order.proofs.FirstFound.{or_then_both}
use Rattle.c_rules_order.proofs.Forms.{more_arg_sides, more_args}
use Rattle.c_rules_order.proofs.exprs.+sides.Goals as goal

pub walk_args-loop-arg-preserved : goal.walk_args-loop-arg-preserved
walk_args-loop-arg-preserved t c = record {
  sides = more_arg_sides c.loop-arg.sides.items c.push.new.self.items c.as_slice-arg-items.result.now c.loop-arg.arg-index c.arg-item.result c.in_ok-side.side
      (omega arith) c.arg-item.is c.loop-arg.invariant.sides c.in_ok-side.ensures.side c.in_ok-push.ensures.items;
  found = more_args c.args.known.now c.args.found.now c.loop-arg.found c.walk_expr.new.found c.as_slice-arg-items.result.now c.loop-arg.arg-index c.arg-item.result
      (omega arith) c.arg-item.is c.loop-arg.invariant.found c.in_ok-side.ensures.found;
}

pub add_stored-returns-clause-found : goal.add_stored-returns-clause-found
add_stored-returns-clause-found t c =
    let value = texpr_tree c.args.value.now in
    let known = c.args.known.now in
    let so_far = c.walk_expr.new.found in
    or_then_both known c.args.found.now so_far c.join_stored.new.found (compared_in value)
    (two c.args.pos c.args.side.now (side_of value)) (stored_beside c.args.pos (tlvalue_tree c.args.place.now) value) c.in_ok-right.ensures.found
    (subst (λ (side : Side). c.join_stored.new.found ≡ or_first known so_far (two c.args.pos c.args.side.now side
    ++ stored_beside c.args.pos (tlvalue_tree c.args.place.now) value)) c.in_ok-right.ensures.side c.in_ok-join_stored.ensures.found)

pub add_changed-returns-clause-found : goal.add_changed-returns-clause-found
add_changed-returns-clause-found t c =
    let value = texpr_tree c.args.value.now in
    let known = c.args.known.now in
    let so_far = c.walk_expr.new.found in
    or_then_both known c.args.found.now so_far c.join_changed.new.found (compared_in value)
    (two c.args.pos c.args.side.now (side_of value)) (two c.args.pos (only (read_at (place_of (tlvalue_tree c.args.place.now)))) (side_of value)) c.in_ok-right.ensures.found
    (subst (λ (side : Side). c.join_changed.new.found ≡ or_first known so_far (two c.args.pos c.args.side.now side
    ++ two c.args.pos (only (read_at (place_of (tlvalue_tree c.args.place.now)))) side)) c.in_ok-right.ensures.side c.in_ok-join_changed.ensures.found)
