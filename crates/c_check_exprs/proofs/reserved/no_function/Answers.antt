use Rattle.std.proofs.Common.{ap, refl}
use Rattle.std.specs.Prelude.{None}
use Rattle.c_typing.specs.World.{no_rule}
use Rattle.c_check_names.proofs.Steps.{told_as}
use Rattle.c_check_names.specs.Worlds.{world_of}
use Rattle.c_check_exprs.proofs.reserved.no_function.Goals as goal

pub returns : goal.returns
returns c =
    let w = world_of c.args.world.now in
    told_as c.no_rule.result (ap (λ ty. no_rule w c.args.pos c.args.op ty None) c.unknown_function-function.ensures) (c.no_rule.ensures w refl)
