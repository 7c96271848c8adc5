use Rattle.std.proofs.Common.{ap}
use Rattle.std.specs.Prelude.{Some, option_map}
use Rattle.c_syntax.specs.Types.{ctype_tree}
use Rattle.c_syntax.specs.TypedExpr.{texpr_tree}
use Rattle.c_typing.specs.Nodes as nodes
use Rattle.c_typing.specs.Rows as rows
use Rattle.c_typing.specs.World.{no_rule}
use Rattle.c_check_operators.specs.OperandViews.{operand_tree}
use Rattle.c_check_names.proofs.Steps.{so, for_types}
use Rattle.c_check_nodes.proofs.operators.binary.Goals as goal

pub returns : goal.returns
returns c w same =
    for_types operand_tree w (λ l r. rows.binary_row w.structs c.args.pos c.args.op l r (texpr_tree c.args.a) (texpr_tree c.args.b))
    (λ l r n. nodes.given (no_rule w c.args.pos (nodes.binary_op c.args.op) l (Some r)) n w) _ c.in_ok-left.ensures c.in_ok-right.ensures (rw same c.in_ok-row.ensures)
    (so operand_tree w _ (ap (λ op. nodes.given (no_rule w c.args.pos op (ctype_tree c.in_ok-left.left) (Some (ctype_tree c.in_ok-right.right))) (option_map texpr_tree c.in_ok-row.row) w) c.binary_op.ensures) (c.given.ensures w same))
