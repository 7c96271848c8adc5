use Rattle.std.proofs.Common.{ap, ◌∙◌}
use Rattle.std.proofs.lemmas.Option.{IfSome_then}
use Rattle.c_syntax.specs.TypedStmt.{tstmt_tree}
use Rattle.c_typing.specs.Decls.{Made}
use Rattle.c_typing.specs.Stmts.{TypesStmt, one, with_items}
use Rattle.c_typing.specs.World.{Typed, goes_on, stops}
use Rattle.c_check_names.specs.Views.{refusal_of}
use Rattle.c_check_stmts.proofs.Results.{typed_in, refused_in}
use Rattle.c_check_stmts.proofs.simple.one_behind.Goals as goal

pub returns-in-Err : goal.returns-in-Err
returns-in-Err c w v around s p =
    IfSome_then (refusal_of c.in-Err.error)
    (refused_in (TypesStmt w around s) (λ node. one (tstmt_tree node)) v c.args.typed c.in-Err.error c.in-Err.is p) (λ r q. stops q)

pub returns : goal.returns
returns c w v around s p =
    goes_on (typed_in (TypesStmt w around s) (λ node. one (tstmt_tree node)) v c.args.typed c.in-Ok.got c.in-Ok.is p)
    (ap (λ (made : Made). Typed made v)
    (c.in_ok-push.ensures ∙ ap (λ (made : Made). with_items made (one (tstmt_tree c.in-Ok.got))) c.make_room.ensures))
