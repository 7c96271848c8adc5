use Rattle.std.proofs.Common.{ap, ◌∙◌}
use Rattle.std.proofs.lemmas.Option.{IfSome_then}
use Rattle.c_syntax.specs.Types.{ctype_tree}
use Rattle.c_syntax.specs.TypedExpr.{texpr_tree}
use Rattle.c_typing.specs.Inits as inits
use Rattle.c_typing.specs.Typing.{Types, Valued}
use Rattle.c_typing.specs.World.{Refused, goes_on, stops}
use Rattle.c_check_names.specs.Views.{refusal_of}
use Rattle.c_check_names.specs.Worlds.{world_of}
use Rattle.c_check_inits.proofs.Results.{typed_in, refused_in}
use Rattle.c_check_inits.proofs.excess.too_many.Goals as goal

pub returns-in-Err : goal.returns-in-Err
returns-in-Err c w e at p =
    IfSome_then (refusal_of c.in-Err.error)
    (refused_in (Valued (Types w e)) texpr_tree (world_of c.args.world.now) c.args.typed c.in-Err.error c.in-Err.is p) (λ r q. stops q)

pub returns-in-Ok : goal.returns-in-Ok
returns-in-Ok c w e at p =
    IfSome_then (refusal_of c.excess.result) c.excess.ensures (λ r q.
    goes_on (typed_in (Valued (Types w e)) texpr_tree (world_of c.args.world.now) c.args.typed c.in-Ok.value c.in-Ok.is p)
    (ap Refused (q ∙ ap (inits.excess (world_of c.args.world.now) (ctype_tree c.args.whole.now)) at)))
