use Rattle.c_lexer.proofs.Laws.{cut_no_uncut}
use Rattle.c_lexer.proofs.cut.cut_nor_uncut.Goals as goal

pub returns : goal.returns
returns c = cut_no_uncut
