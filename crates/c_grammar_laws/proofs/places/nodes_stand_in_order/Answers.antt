use Rattle.c_grammar_laws.proofs.Order as lemmas
use Rattle.c_grammar_laws.proofs.places.nodes_stand_in_order.Goals as goal

pub returns : goal.returns
returns c = lemmas.nodes_stand_in_order
