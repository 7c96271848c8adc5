use Rattle.std.proofs.Common.{ap}
use Rattle.std.specs.Prelude.{None}
use Rattle.c_syntax.specs.TypedExpr.{texpr_tree}
use Rattle.c_syntax.specs.TypedParts.{texpr_type}
use Rattle.c_typing.specs.Nodes as nodes
use Rattle.c_typing.specs.Rows as rows
use Rattle.c_typing.specs.World.{no_rule}
use Rattle.c_check_operators.specs.ArithmeticViews.{sign_at}
use Rattle.c_check_operators.specs.OperandViews.{operand_tree}
use Rattle.c_check_names.proofs.Steps.{so, for_type}
use Rattle.c_check_nodes.proofs.prefixes.signed.Goals as goal

pub returns : goal.returns
returns c w same =
    let value = texpr_tree c.in_ok-e.e in
    so operand_tree w _ (ap (λ e. nodes.given (nodes.no_row w c.args.pos c.args.op e) (rows.unary_row (sign_at c.args.sign) c.args.pos (texpr_type e) e) w) c.in_ok-e.ensures)
    (for_type operand_tree w (λ ty. rows.unary_row (sign_at c.args.sign) c.args.pos ty value) (λ ty n. nodes.given (no_rule w c.args.pos c.args.op ty None) n w) _
    c.in_ok-ty.ensures c.in_ok-row.ensures (c.given.ensures w same))
