use Rattle.c_lexer.proofs.PieceLemmas.{number_piece, wide_piece, bad_number_piece}
use Rattle.c_lexer.proofs.piece.number.Goals as goal

pub returns-in-Constant : goal.returns-in-Constant
returns-in-Constant c = number_piece c.args.bytes.now c.number_len-n.result c.in-Constant.constant c.requires c.number_len-n.ensures c.in-Constant.ensures

pub returns-in-TooWide : goal.returns-in-TooWide
returns-in-TooWide c = wide_piece c.args.bytes.now c.number_len-n.result c.requires c.number_len-n.ensures c.in-TooWide.ensures.0 c.in-TooWide.ensures.1

pub returns-in-NoInteger : goal.returns-in-NoInteger
returns-in-NoInteger c = bad_number_piece c.args.bytes.now c.number_len-n.result c.requires c.number_len-n.ensures c.in-NoInteger.ensures
