use Rattle.std.proofs.Common.{ap, ◌∙◌}
use Rattle.std.specs.Prelude.{None}
use Rattle.c_syntax.specs.Types.{ctype_tree}
use Rattle.c_syntax.specs.declared.op.Op.TheVariants as ops
use Rattle.c_typing.specs.Rows as rows
use Rattle.c_typing.specs.World.{no_rule, Refused}
use Rattle.c_check_operators.specs.OperandViews.{operand_tree}
use Rattle.c_check_names.proofs.Steps.{so, refused, when_true, when_false}
use Rattle.c_check_nodes.proofs.choice.conditional.Goals as goal

pub returns-then-is_scalar : goal.returns-then-is_scalar
returns-then-is_scalar c w same =
    so operand_tree w _ (when_true _ _ c.if-is_scalar.true (c.is_scalar.ensures ∙ ap rows.is_scalar c.in_ok-ty.ensures)) (c.chosen.ensures w same)

pub returns-else-is_scalar : goal.returns-else-is_scalar
returns-else-is_scalar c w same =
    refused c.no_rule.result (no_rule w c.args.pos ops.Test (ctype_tree c.in_ok-ty.ty) None) _ (c.no_rule.ensures w same)
    (ap (λ ty. Refused (no_rule w c.args.pos ops.Test ty None)) c.in_ok-ty.ensures
    ∙ when_false _ _ c.if-is_scalar.false (c.is_scalar.ensures ∙ ap rows.is_scalar c.in_ok-ty.ensures))
