use Rattle.std.proofs.Common.{◌≡◌}
use Rattle.std.proofs.lemmas.Option.{IfSome_then}
use Rattle.c_syntax_written.specs.Written.{expr_tree}
use Rattle.c_syntax.specs.TypedExpr.{texpr_tree}
use Rattle.c_syntax.specs.TypedParts.{texpr_type}
use Rattle.c_typing.specs.Stmts.{SwitchValue, switched_by}
use Rattle.c_typing.specs.World.{goes_on, stops}
use Rattle.c_check_names.specs.Views.{refusal_of}
use Rattle.c_check_jumps.specs.Views.{switched_tree}
use Rattle.c_check_names.specs.Worlds.{world_of}
use Rattle.c_check_stmts.proofs.PartResults.{by}
use Rattle.c_check_stmts.proofs.conditions.switch_value.Goals as goal

pub returns-in-Err : goal.returns-in-Err
returns-in-Err c = IfSome_then (refusal_of c.in-Err.error) c.in-Err.ensures (λ r p. stops p)

pub returns : goal.returns
returns c =
    let w = world_of c.value.new.world in
    let x = texpr_tree c.in-Ok.got in
    by (λ out. out ≡ switched_by w c.args.at x (texpr_type x)) (SwitchValue (world_of c.args.world.now) c.args.at (expr_tree c.args.e.now)) switched_tree w
    c.switched_by.result c.switched_by.ensures (λ o p. goes_on c.in-Ok.ensures p)
