use Rattle.std.proofs.Common.{refl, sym, ap, ◌∙◌}
use Rattle.std.specs.Prelude.{None}
use Rattle.c_syntax.specs.declared.op.Op.TheVariants as ops
use Rattle.c_syntax.specs.Types.{ctype_tree}
use Rattle.c_syntax.specs.TypedExpr.{texpr_tree}
use Rattle.c_syntax.specs.TypedParts.{texpr_type}
use Rattle.c_typing.specs.World.{no_rule}
use Rattle.c_typing.specs.Stmts.{switched_by}
use Rattle.c_check_names.proofs.Steps.{refused}
use Rattle.c_check_names.specs.Worlds.{world_of}
use Rattle.c_check_jumps.proofs.switches.switched_by.Goals as goal

pub returns-in-None : goal.returns-in-None
returns-in-None c =
    let w = world_of c.args.world.now in
    let e = texpr_tree c.args.e in
    let from = ctype_tree c.in_ok-from.from in
    refused c.no_rule.result (no_rule w c.args.at ops.Switch from None) (switched_by w c.args.at e (texpr_type e)) (c.no_rule.ensures w refl)
    (sym (c.in-None.ensures w c.args.at e) ∙ ap (switched_by w c.args.at e) c.in_ok-from.ensures)
