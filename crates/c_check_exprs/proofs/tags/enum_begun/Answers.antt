use Rattle.std.proofs.Common.{sym}
use Rattle.std.specs.Option.{option_map}
use Rattle.c_typing.specs.Names.{enum_opened}
use Rattle.c_check_names.specs.Views.{refusal_of}
use Rattle.c_check_names.specs.Worlds as names
use Rattle.c_check_names.specs.Worlds.{world_of}
use Rattle.c_check_exprs.proofs.Refusals.{refused_as}
use Rattle.c_check_exprs.proofs.tags.enum_begun.Goals as goal

pub returns-in-Ok : goal.returns-in-Ok
returns-in-Ok c = sym c.in-Ok.ensures

pub returns-in-Err : goal.returns-in-Err
returns-in-Err c =
    refused_as (enum_opened (world_of c.args.world.now) (option_map (λ t. t.now) c.args.tag)) (refusal_of c.refused_by.result) (names.refusal_of c.in-Err.error) c.refused_by.ensures c.in-Err.ensures
