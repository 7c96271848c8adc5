use Rattle.c_lexer.proofs.Laws.{same_cut}
use Rattle.c_lexer.proofs.cut.one_cut.Goals as goal

pub returns : goal.returns
returns c = same_cut
