use Rattle.c_grammar.proofs.Laws.{one_file}
use Rattle.c_grammar.proofs.one_file.Goals as goal

pub returns : goal.returns
returns c = one_file
