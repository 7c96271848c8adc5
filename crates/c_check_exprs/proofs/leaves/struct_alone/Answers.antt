use Rattle.std.proofs.Common.{ap}
use Rattle.std.proofs.lemmas.Option.{IfSome_then}
use Rattle.c_typing.specs.World.{Typed, Refused, goes_on, stops}
use Rattle.c_check_names.specs.Views.{refusal_of}
use Rattle.c_check_declarators.specs.FormViews.{part_tree}
use Rattle.c_check_names.specs.Worlds.{world_of}
use Rattle.c_check_exprs.proofs.Lines.{struct_line}
use Rattle.c_check_exprs.proofs.leaves.struct_alone.Goals as goal

pub returns-in-Err : goal.returns-in-Err
returns-in-Err c at =
    IfSome_then (refusal_of c.in-Err.error) c.in-Err.ensures (λ r p. struct_line (world_of c.args.world.now) c.args.alone at c.args.tag.now (Refused r) (stops p))

pub returns-in-Ok : goal.returns-in-Ok
returns-in-Ok c at =
    let after = world_of c.struct_tagged.new.world in
    struct_line (world_of c.args.world.now) c.args.alone at c.args.tag.now (Typed (part_tree c.struct_part.result) after)
    (goes_on c.in-Ok.ensures (ap (λ part. Typed part after) c.struct_part.ensures))
