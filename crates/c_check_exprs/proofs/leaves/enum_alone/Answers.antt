use Rattle.std.proofs.Common.{ap}
use Rattle.std.proofs.lemmas.Option.{IfSome_then}
use Rattle.c_typing.specs.World.{Typed, Refused, goes_on, stops}
use Rattle.c_check_names.specs.Views.{refusal_of}
use Rattle.c_check_declarators.specs.FormViews.{part_tree}
use Rattle.c_check_names.specs.Worlds.{world_of}
use Rattle.c_check_exprs.proofs.Lines.{enum_line}
use Rattle.c_check_exprs.proofs.leaves.enum_alone.Goals as goal

pub returns-in-Err : goal.returns-in-Err
returns-in-Err c alone at =
    IfSome_then (refusal_of c.in-Err.error) c.in-Err.ensures (λ r p. enum_line (world_of c.args.world.now) alone at c.args.tag.now (Refused r) (stops p))

pub returns-in-Ok : goal.returns-in-Ok
returns-in-Ok c alone at =
    let w = world_of c.args.world.now in
    enum_line w alone at c.args.tag.now (Typed (part_tree c.enumerated.result) w) (goes_on c.in-Ok.ensures (ap (λ part. Typed part w) c.enumerated.ensures))
