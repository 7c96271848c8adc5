use Rattle.std.proofs.Common.{ap, ◌∙◌, refl}
use Rattle.std.specs.Prelude.{None, if◌then◌else◌}
use Rattle.c_syntax.specs.declared.op.Op.TheVariants as ops
use Rattle.c_syntax.specs.Types.{ctype_tree}
use Rattle.c_syntax.specs.TypedExpr.{TExprTree, Assume, Assert, texpr_tree}
use Rattle.c_syntax.specs.TypedParts.{texpr_type}
use Rattle.c_typing.specs.World.{Outcome, Typed, Refused, no_rule}
use Rattle.c_typing.specs.Operands.{OperandTree, Value}
use Rattle.c_typing.specs.Rows.{is_scalar}
use Rattle.c_check_names.proofs.Steps.{refused, when_false}
use Rattle.c_check_names.specs.Worlds.{world_of}
use Rattle.c_check_exprs.proofs.reserved.scalar_told.Goals as goal

pub returns-else-is_scalar : goal.returns-else-is_scalar
returns-else-is_scalar c =
    let w = world_of c.args.world.now in
    let e = texpr_tree c.args.e in
    let node : TExprTree → TExprTree = if c.args.assumes then Assume c.args.pos else Assert c.args.pos in
    let whole : Outcome OperandTree = Typed (Value (node e)) w in
    let refusal = no_rule w c.args.pos ops.Test (ctype_tree c.in_ok-ty.ty) None in
    refused c.no_rule.result refusal _ (c.no_rule.ensures w refl)
    (ap (λ ty. Refused (no_rule w c.args.pos ops.Test ty None)) c.in_ok-ty.ensures
    ∙ when_false whole (Refused (no_rule w c.args.pos ops.Test (texpr_type e) None)) c.if-is_scalar.false (c.is_scalar.ensures ∙ ap is_scalar c.in_ok-ty.ensures))
