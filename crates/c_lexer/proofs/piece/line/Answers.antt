use Rattle.c_lexer.proofs.PieceLemmas.{line_piece, spliced_piece}
use Rattle.c_lexer.proofs.piece.line.Goals as goal

pub returns-in-None : goal.returns-in-None
returns-in-None c = let l = c.line_len-n.ensures in line_piece c.args.bytes.now c.line_len-n.result l.long l.within c.requires.slash c.requires.second l.one_line l.ends c.in-None.ensures

pub returns-in-Some : goal.returns-in-Some
returns-in-Some c = let l = c.line_len-n.ensures in spliced_piece c.args.bytes.now c.line_len-n.result c.in-Some.place l.long l.within c.requires.slash c.requires.second l.one_line l.ends c.in-Some.ensures.0 c.in-Some.ensures.1
