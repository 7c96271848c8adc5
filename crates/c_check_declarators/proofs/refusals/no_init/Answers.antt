use Rattle.std.proofs.Common.{refl}
use Rattle.c_check_names.specs.Worlds.{world_of}
use Rattle.c_check_declarators.proofs.refusals.no_init.Goals as goal

pub returns : goal.returns
returns c = c.no_rule.ensures (world_of c.args.world.now) refl
