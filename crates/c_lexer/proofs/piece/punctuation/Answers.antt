use Rattle.c_lexer.proofs.PieceLemmas.{punctuator_piece, nothing_piece}
use Rattle.c_lexer.proofs.piece.punctuation.Goals as goal

pub returns-in-None : goal.returns-in-None
returns-in-None c = nothing_piece c.args.bytes.now c.requires.some c.requires.other c.requires.comment c.in-None.ensures

pub returns-in-Some : goal.returns-in-Some
returns-in-Some c = punctuator_piece c.args.bytes.now c.in-Some.punctuator c.in-Some.n c.requires.other c.requires.comment c.in-Some.ensures.0 c.in-Some.ensures.1
