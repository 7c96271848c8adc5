use Rattle.c_grammar.proofs.Laws.{one_refusal}
use Rattle.c_grammar.proofs.one_refusal.Goals as goal

pub returns : goal.returns
returns c = one_refusal
