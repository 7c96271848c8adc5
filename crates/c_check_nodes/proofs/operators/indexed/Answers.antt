use Rattle.std.specs.Prelude.{Some}
use Rattle.c_syntax.specs.TypedExpr.{texpr_tree}
use Rattle.c_syntax.specs.declared.op.Op.TheVariants as ops
use Rattle.c_typing.specs.Nodes as nodes
use Rattle.c_typing.specs.Rows as rows
use Rattle.c_typing.specs.World.{no_rule}
use Rattle.c_check_operators.specs.OperandViews.{operand_tree}
use Rattle.c_check_names.proofs.Steps.{for_types}
use Rattle.c_check_nodes.proofs.operators.indexed.Goals as goal

pub returns : goal.returns
returns c w same =
    for_types operand_tree w (λ l r. rows.index_row w.structs c.args.pos l r (texpr_tree c.args.a) (texpr_tree c.args.b))
    (λ l r n. nodes.given_place (no_rule w c.args.pos ops.Index l (Some r)) n w) _ c.in_ok-left.ensures c.in_ok-right.ensures (rw same c.in_ok-row.ensures) (c.given_place.ensures w same)
