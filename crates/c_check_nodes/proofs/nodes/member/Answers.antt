use Rattle.std.proofs.Common.{ap, sym, ◌∙◌}
use Rattle.std.specs.Prelude.{None, option_map}
use Rattle.c_syntax.specs.Types.{ctype_tree}
use Rattle.c_syntax.specs.TypedExpr.{tlvalue_tree}
use Rattle.c_syntax.specs.TypedParts.{texpr_type, tlvalue_type}
use Rattle.c_syntax.specs.declared.op.Op.TheVariants as ops
use Rattle.c_typing.specs.Nodes as typing
use Rattle.c_typing.specs.Rows as rows
use Rattle.c_typing.specs.Operands as operands
use Rattle.c_typing.specs.World.{no_rule, Refused}
use Rattle.c_check_operators.specs.OperandViews.{operand_tree}
use Rattle.c_check_names.proofs.Steps.{refused}
use Rattle.c_check_nodes.proofs.nodes.member.Goals as goal

pub returns-in-Value : goal.returns-in-Value
returns-in-Value c w same =
    refused c.no_rule.result (no_rule w c.args.pos ops.Dot (ctype_tree c.in_ok-shown.shown) None) _ (c.no_rule.ensures w same)
    (ap (λ ty. Refused (no_rule w c.args.pos ops.Dot ty None)) (c.in_ok-shown.ensures ∙ ap (λ x. texpr_type (operands.value_of (operand_tree x))) c.in-Value.is)
    ∙ ap (λ x. typing.member w c.args.pos c.args.name.now (operand_tree x)) (sym c.in-Value.is))

pub returns-in-None : goal.returns-in-None
returns-in-None c w same =
    let place = tlvalue_tree c.in-Place.place in
    let value = operands.value_of (operands.Place place) in
    let name = c.args.name.now in
    let row = sym (ap (option_map tlvalue_tree) c.in-None.is) ∙ c.in_ok-member_in-in-Place.ensures
    ∙ ap (λ structs. rows.member_row structs c.args.pos name (tlvalue_type place) place) (sym same) in
    refused c.no_rule-in-None.result (no_rule w c.args.pos ops.Dot (ctype_tree c.in_ok-shown.shown) None) _ (c.no_rule-in-None.ensures w same)
    (ap (λ ty. Refused (no_rule w c.args.pos ops.Dot ty None)) (c.in_ok-shown.ensures ∙ ap (λ x. texpr_type (operands.value_of (operand_tree x))) c.in-Place.is)
    ∙ ap (λ n. typing.given_place (typing.no_row w c.args.pos ops.Dot value) n w) row
    ∙ ap (λ x. typing.member w c.args.pos name (operand_tree x)) (sym c.in-Place.is))
