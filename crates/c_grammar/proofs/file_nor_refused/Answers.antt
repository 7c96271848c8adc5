use Rattle.c_grammar.proofs.Laws.{not_both}
use Rattle.c_grammar.proofs.file_nor_refused.Goals as goal

pub returns : goal.returns
returns c = not_both
