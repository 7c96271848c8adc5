use Rattle.std.proofs.Common.{ap, ◌∙◌}
use Rattle.std.specs.Prelude.{None}
use Rattle.c_syntax.specs.Types.{ctype_tree}
use Rattle.c_syntax.specs.declared.op.Op.TheVariants as ops
use Rattle.c_typing.specs.Operands as operands
use Rattle.c_typing.specs.World.{no_rule, Refused}
use Rattle.c_check_names.proofs.Steps.{refused, when_true}
use Rattle.c_check_nodes.proofs.prefixes.address_of.Goals as goal

pub returns-then-is_unsized : goal.returns-then-is_unsized
returns-then-is_unsized c w same =
    let is = c.in_ok-ty.ensures ∙ c.ty.ensures in
    refused c.no_rule.result (no_rule w c.args.pos ops.BitAnd (ctype_tree c.in_ok-ty.ty) None) _ (c.no_rule.ensures w same)
    (ap (λ ty. Refused (no_rule w c.args.pos ops.BitAnd ty None)) is
    ∙ when_true _ _ c.if-is_unsized.true (c.is_unsized.ensures ∙ ap operands.is_unsized is))
