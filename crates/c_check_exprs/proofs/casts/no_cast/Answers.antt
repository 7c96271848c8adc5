use Rattle.std.proofs.Common.{refl, ap, ◌∙◌}
use Rattle.std.specs.Prelude.{Some}
use Rattle.c_syntax.specs.Types.{ctype_tree}
use Rattle.c_syntax.specs.declared.op.Op.TheVariants as ops
use Rattle.c_typing.specs.Declarators.{unknown_function}
use Rattle.c_typing.specs.World.{Refused, no_rule}
use Rattle.c_check_names.proofs.Steps.{refused}
use Rattle.c_check_names.specs.Worlds.{world_of}
use Rattle.c_check_exprs.proofs.casts.no_cast.Goals as goal

pub returns : goal.returns
returns c =
    let w = world_of c.args.world.now in
    refused c.no_rule.result (no_rule w c.args.pos ops.Cast (ctype_tree c.unknown_function-target.result) (Some (ctype_tree c.in_ok-ty.ty))) _ (c.no_rule.ensures w refl)
    (ap (λ target. Refused (no_rule w c.args.pos ops.Cast target (Some (ctype_tree c.in_ok-ty.ty)))) c.unknown_function-target.ensures
    ∙ ap (λ ty. Refused (no_rule w c.args.pos ops.Cast (unknown_function w) (Some ty))) c.in_ok-ty.ensures)
