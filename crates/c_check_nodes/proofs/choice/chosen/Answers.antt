use Rattle.std.specs.Prelude.{Some}
use Rattle.c_syntax.specs.TypedExpr.{texpr_tree}
use Rattle.c_syntax.specs.declared.op.Op.TheVariants as ops
use Rattle.c_typing.specs.Nodes as nodes
use Rattle.c_typing.specs.Rows as rows
use Rattle.c_typing.specs.World.{no_rule}
use Rattle.c_check_operators.specs.OperandViews.{operand_tree}
use Rattle.c_check_names.proofs.Steps.{for_types}
use Rattle.c_check_nodes.proofs.choice.chosen.Goals as goal

pub returns : goal.returns
returns c w same =
    for_types operand_tree w (λ l r. rows.cond_row c.args.pos (texpr_tree c.args.test) l r (texpr_tree c.args.a) (texpr_tree c.args.b))
    (λ l r n. nodes.given (no_rule w c.args.pos ops.Cond l (Some r)) n w) _ c.in_ok-left.ensures c.in_ok-right.ensures c.in_ok-row.ensures (c.given.ensures w same)
