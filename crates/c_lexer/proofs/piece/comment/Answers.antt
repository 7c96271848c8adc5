use Rattle.c_lexer.proofs.PieceLemmas.{comment_piece, open_comment_piece}
use Rattle.c_lexer.proofs.piece.comment.Goals as goal

pub returns-in-None : goal.returns-in-None
returns-in-None c = open_comment_piece c.args.bytes.now c.requires.long c.requires.slash c.requires.star c.in-None.ensures

pub returns-in-Some : goal.returns-in-Some
returns-in-Some c = comment_piece c.args.bytes.now c.in-Some.n c.in-Some.ensures.0 c.in-Some.ensures.1
