use Rattle.c_lexer.proofs.Laws.{same_uncut}
use Rattle.c_lexer.proofs.cut.one_uncut.Goals as goal

pub returns : goal.returns
returns c = same_uncut
