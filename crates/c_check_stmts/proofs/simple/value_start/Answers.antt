use Rattle.std.proofs.Common.{ap, ◌∙◌}
use Rattle.std.proofs.lemmas.Option.{IfSome_then}
use Rattle.c_syntax_written.specs.declared.place.Pos.{Pos}
use Rattle.c_syntax.specs.TypedExpr.{texpr_tree}
use Rattle.c_syntax.specs.TypedStmt.{TStmtTree, Expr, tstmt_tree}
use Rattle.c_typing.specs.Decls.{Made}
use Rattle.c_typing.specs.Stmts.{one, with_items}
use Rattle.c_typing.specs.World.{Typed, goes_on, stops}
use Rattle.c_check_names.specs.Views.{refusal_of}
use Rattle.c_check_names.specs.Worlds.{world_of}
use Rattle.c_check_stmts.specs.Forms.{bare}
use Rattle.c_check_stmts.proofs.Lines.{bare_made}
use Rattle.c_check_stmts.proofs.simple.value_start.Goals as goal

pub returns-in-Err : goal.returns-in-Err
returns-in-Err c = IfSome_then (refusal_of c.in-Err.error) c.in-Err.ensures (λ r p. stops p)

pub returns : goal.returns
returns c =
    let node = tstmt_tree c.expression_node.result in
    let x = texpr_tree c.in-Ok.got in
    goes_on c.in-Ok.ensures (ap (λ (made : Made). Typed made (world_of c.dropped.new.world)) (c.in_ok-push.ensures
    ∙ ap (λ (made : Made). with_items made (one node)) c.nothing-made.ensures ∙ bare_made (one node)
    ∙ ap (λ (s : TStmtTree). bare (one s)) (c.expression_node.ensures ∙ ap (λ (at : Pos). Expr at x) c.pos.ensures)))
