use Rattle.c_grammar.proofs.Laws.{FileOrRefused, file_or_refused}
use Rattle.c_grammar.proofs.file_or_refused.Goals as goal

pub returns : goal.returns
unfolding FileOrRefused
returns c = file_or_refused
