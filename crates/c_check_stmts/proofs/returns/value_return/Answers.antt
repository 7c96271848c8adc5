use Rattle.std.proofs.Common.{◌≡◌}
use Rattle.std.proofs.lemmas.Option.{IfSome_then}
use Rattle.c_syntax_written.specs.Written.{expr_tree}
use Rattle.c_syntax.specs.TypedExpr.{texpr_tree}
use Rattle.c_syntax.specs.TypedStmt.{tstmt_tree}
use Rattle.c_typing.specs.Stmts.{one, returned}
use Rattle.c_typing.specs.World.{goes_on, stops}
use Rattle.c_check_jumps.specs.ContextViews.{context_tree}
use Rattle.c_check_names.specs.Views.{refusal_of}
use Rattle.c_check_names.specs.Worlds.{world_of}
use Rattle.c_check_stmts.specs.PartForms.{ReturnsValue}
use Rattle.c_check_stmts.proofs.PartResults.{by}
use Rattle.c_check_stmts.proofs.returns.value_return.Goals as goal

pub returns-in-Err : goal.returns-in-Err
returns-in-Err c = IfSome_then (refusal_of c.in-Err.error) c.in-Err.ensures (λ r p. stops p)

pub returns : goal.returns
returns c =
    let w = world_of c.value.new.world in
    let target = (context_tree c.args.around).result in
    by (λ out. out ≡ returned w c.args.at target (texpr_tree c.in-Ok.got)) (ReturnsValue (world_of c.args.world.now) c.args.at target (expr_tree c.args.e.now))
    (λ s. one (tstmt_tree s)) w c.stored_return.result c.stored_return.ensures (λ o p. goes_on c.in-Ok.ensures p)
