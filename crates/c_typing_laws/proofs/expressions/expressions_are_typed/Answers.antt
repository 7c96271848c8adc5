use Rattle.c_typing_laws.proofs.WholeExpressions as lemmas
use Rattle.c_typing_laws.proofs.expressions.expressions_are_typed.Goals as goal

pub returns : goal.returns
returns c = lemmas.expressions_are_typed
