use Rattle.std.proofs.Common.{ap}
use Rattle.std.proofs.lemmas.Option.{IfSome_then}
use Rattle.c_syntax_written.specs.Written.{expr_tree}
use Rattle.c_syntax.specs.TypedStmt.{TStmtTree, tstmt_tree}
use Rattle.c_typing.specs.Stmts.{one}
use Rattle.c_typing.specs.World.{Typed, Refused, goes_on, stops}
use Rattle.c_check_names.specs.Views.{refusal_of}
use Rattle.c_check_names.specs.Worlds.{world_of}
use Rattle.c_check_stmts.proofs.Lines.{expression_line}
use Rattle.c_check_stmts.proofs.simple.expression_form.Goals as goal

pub returns-in-Err : goal.returns-in-Err
returns-in-Err c around =
    IfSome_then (refusal_of c.in-Err.error) c.in-Err.ensures
    (λ r p. expression_line (world_of c.args.world.now) around c.args.at (expr_tree c.args.e.now) (Refused r) (stops p))

pub returns : goal.returns
returns c around =
    let v = world_of c.dropped.new.world in
    expression_line (world_of c.args.world.now) around c.args.at (expr_tree c.args.e.now) (Typed (one (tstmt_tree c.expression_node.result)) v)
    (goes_on c.in-Ok.ensures (ap (λ (s : TStmtTree). Typed (one s) v) c.expression_node.ensures))
