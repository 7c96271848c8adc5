use Rattle.std.proofs.Common.{ap}
use Rattle.c_syntax.specs.TypedStmt.{TStmtTree, tstmt_tree}
use Rattle.c_typing.specs.Stmts.{one}
use Rattle.c_typing.specs.World.{Typed}
use Rattle.c_check_stmts.proofs.Lines.{empty_line}
use Rattle.c_check_stmts.proofs.simple.empty_form.Goals as goal

pub returns : goal.returns
returns c w around =
    empty_line w around c.args.at (Typed (one (tstmt_tree c.empty_node.result)) w) (ap (λ (s : TStmtTree). Typed (one s) w) c.empty_node.ensures)
