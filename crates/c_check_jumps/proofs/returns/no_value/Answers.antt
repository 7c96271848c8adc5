use Rattle.std.proofs.Common.{refl, ap}
use Rattle.std.specs.Prelude.{option_map}
use Rattle.c_syntax.specs.declared.op.Op.TheVariants as ops
use Rattle.c_syntax.specs.Types.{CTypeTree, ctype_tree}
use Rattle.c_typing.specs.World.{no_rule}
use Rattle.c_check_names.proofs.Steps.{told_as}
use Rattle.c_check_names.specs.Worlds.{world_of}
use Rattle.c_check_jumps.proofs.returns.no_value.Goals as goal

pub returns-in-Ok : goal.returns-in-Ok
returns-in-Ok c =
    let w = world_of c.args.world.now in
    told_as c.no_rule.result (ap (λ (ty : CTypeTree). no_rule w c.args.at ops.Return ty (option_map ctype_tree c.args.from)) c.in-Ok.ensures) (c.no_rule.ensures w refl)
