use Rattle.std.proofs.Common.{ap, sym, ◌∙◌}
use Rattle.std.specs.Prelude.{Some, option_map}
use Rattle.c_syntax.specs.Types.{ctype_tree}
use Rattle.c_syntax.specs.TypedExpr.{texpr_tree}
use Rattle.c_syntax.specs.TypedParts.{texpr_type}
use Rattle.c_syntax.specs.declared.op.Op.TheVariants as ops
use Rattle.c_typing.specs.Nodes as nodes
use Rattle.c_typing.specs.Operands as operands
use Rattle.c_typing.specs.Rows as rows
use Rattle.c_typing.specs.World.{no_rule, Refused}
use Rattle.c_check_operators.specs.OperandViews.{operand_tree}
use Rattle.c_check_operators.specs.StoreViews.{stored_tree}
use Rattle.c_check_names.proofs.Steps.{so, refused}
use Rattle.c_check_nodes.proofs.changes.assigned.Goals as goal

pub returns-in-None : goal.returns-in-None
returns-in-None c w same =
    let x = operand_tree c.args.operand in let e = texpr_tree c.args.e in
    let t = ctype_tree c.in_ok-target.target in let u = ctype_tree c.in_ok-ty.ty in
    let target = texpr_type (operands.value_of x) in
    let row = sym (ap (option_map stored_tree) c.in-None.is) ∙ c.in_ok-stored_row.ensures ∙ ap (λ structs. rows.stored_row structs t u e) (sym same)
    ∙ ap (λ ty. rows.stored_row w.structs ty u e) c.in_ok-target.ensures ∙ ap (λ ty. rows.stored_row w.structs target ty e) c.in_ok-ty.ensures in
    refused c.no_rule.result (no_rule w c.args.pos ops.Assign t (Some u)) _ (c.no_rule.ensures w same)
    (ap (λ ty. Refused (no_rule w c.args.pos ops.Assign ty (Some u))) c.in_ok-target.ensures
    ∙ ap (λ ty. Refused (no_rule w c.args.pos ops.Assign target (Some ty))) c.in_ok-ty.ensures
    ∙ ap (λ n. nodes.changed (nodes.no_rows w c.args.pos ops.Assign (operands.value_of x) e) c.args.pos x n (nodes.store_node c.args.pos) w) row)

pub returns-in-Some : goal.returns-in-Some
returns-in-Some c w same =
    let x = operand_tree c.args.operand in let e = texpr_tree c.args.e in
    let t = ctype_tree c.in_ok-target.target in let u = ctype_tree c.in_ok-ty.ty in
    let target = texpr_type (operands.value_of x) in
    let row = sym (ap (option_map stored_tree) c.in-Some.is) ∙ c.in_ok-stored_row.ensures ∙ ap (λ structs. rows.stored_row structs t u e) (sym same)
    ∙ ap (λ ty. rows.stored_row w.structs ty u e) c.in_ok-target.ensures ∙ ap (λ ty. rows.stored_row w.structs target ty e) c.in_ok-ty.ensures in
    so operand_tree w _ (ap (λ n. nodes.changed (nodes.no_rows w c.args.pos ops.Assign (operands.value_of x) e) c.args.pos x n (nodes.store_node c.args.pos) w) row) (c.store.ensures w)
