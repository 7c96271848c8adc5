use Rattle.std.proofs.Common.{ap, sym, ◌∙◌}
use Rattle.std.specs.Prelude.{None}
use Rattle.c_syntax.specs.Types.{ctype_tree}
use Rattle.c_syntax.specs.TypedExpr.{texpr_tree, tlvalue_tree}
use Rattle.c_syntax.specs.TypedExpr as trees
use Rattle.c_typing.specs.Nodes as nodes
use Rattle.c_typing.specs.Operands as operands
use Rattle.c_typing.specs.Rows as rows
use Rattle.c_typing.specs.World.{no_rule, Refused}
use Rattle.c_check_operators.specs.OperandViews.{operand_tree}
use Rattle.c_check_names.proofs.Steps.{so, refused, told_as}
use Rattle.c_check_nodes.proofs.changes.stepped.Goals as goal

pub returns-in-None : goal.returns-in-None
returns-in-None c w same =
    let x = operand_tree c.args.operand in
    let t = ctype_tree c.in_ok-ty.ty in
    let op = nodes.step_op c.args.way in
    let row = sym c.in-None.is ∙ c.step_row.ensures ∙ ap (λ structs. rows.step_row structs t) (sym same) ∙ ap (rows.step_row w.structs) c.in_ok-ty.ensures in
    refused c.no_rule.result (no_rule w c.args.pos op t None) _
    (told_as c.no_rule.result (ap (λ op. no_rule w c.args.pos op t None) c.step_op.ensures) (c.no_rule.ensures w same))
    (ap (λ ty. Refused (no_rule w c.args.pos op ty None)) c.in_ok-ty.ensures
    ∙ ap (λ n. nodes.changed (nodes.no_row w c.args.pos op (operands.value_of x)) c.args.pos x n (λ stride place. trees.Step c.args.pos c.args.time c.args.way stride place) w) row)

pub returns-in-Some : goal.returns-in-Some
returns-in-Some c w same =
    let x = operand_tree c.args.operand in
    let t = ctype_tree c.in_ok-ty.ty in
    let op = nodes.step_op c.args.way in
    let row = sym c.in-Some.is ∙ c.step_row.ensures ∙ ap (λ structs. rows.step_row structs t) (sym same) ∙ ap (rows.step_row w.structs) c.in_ok-ty.ensures in
    so operand_tree w _ (ap (λ n. nodes.changed (nodes.no_row w c.args.pos op (operands.value_of x)) c.args.pos x n (λ stride place. trees.Step c.args.pos c.args.time c.args.way stride place) w) row) (c.step.ensures w)
