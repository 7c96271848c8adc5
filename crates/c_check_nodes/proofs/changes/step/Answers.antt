use Rattle.c_syntax.specs.TypedExpr.{texpr_tree, tlvalue_tree}
use Rattle.c_syntax.specs.TypedExpr as trees
use Rattle.c_check_nodes.proofs.Steps.{not_lvalue, node_is}
use Rattle.c_check_nodes.proofs.changes.step.Goals as goal

pub returns-in-Err : goal.returns-in-Err
returns-in-Err c w = not_lvalue c.in-Err.error c.args.pos _ c.in-Err.ensures.error (c.in-Err.ensures.refused _ w)

pub returns-in_ok-node-in-Ok : goal.returns-in_ok-node-in-Ok
returns-in_ok-node-in-Ok c w = node_is w _ _ _ c.in_ok-node-in-Ok.ensures (c.in-Ok.ensures.place (λ place. trees.Step c.args.pos c.args.time c.args.way c.args.stride place) w)
