use Rattle.c_syntax_written.proofs.WrittenFileTrees.{stmt_for}
use Rattle.c_parser.proofs.head.for_stmt.Goals as goal

pub returns : goal.returns
returns c = stmt_for _ _ _
