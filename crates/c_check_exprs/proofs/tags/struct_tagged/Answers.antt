use Rattle.std.proofs.Common.{sym}
use Rattle.std.specs.Option.{option_map}
use Rattle.c_typing.specs.Names.{struct_named}
use Rattle.c_check_names.specs.Views.{refusal_of}
use Rattle.c_check_names.specs.Worlds as names
use Rattle.c_check_names.specs.Worlds.{world_of}
use Rattle.c_check_exprs.proofs.Refusals.{refused_as}
use Rattle.c_check_exprs.proofs.tags.struct_tagged.Goals as goal

pub returns-in-Ok : goal.returns-in-Ok
returns-in-Ok c = sym c.in-Ok.ensures

pub returns-in-Err : goal.returns-in-Err
returns-in-Err c =
    refused_as (struct_named (world_of c.args.world.now) c.args.alone c.args.tag.now) (refusal_of c.refused_by.result) (names.refusal_of c.in-Err.error) c.refused_by.ensures c.in-Err.ensures
