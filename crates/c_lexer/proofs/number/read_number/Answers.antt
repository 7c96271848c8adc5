use Rattle.std.proofs.Common.{arith}
use Rattle.c_lexer.proofs.NumberLemmas.{spelled_of}
use Rattle.c_lexer.proofs.number.read_number.Goals as goal

pub returns-in-Some : goal.returns-in-Some
returns-in-Some c = spelled_of c.args.spelling.now _ _ _ _ _ _ _ c.constant.result c.base-base.ensures.base c.base-base.ensures.rest c.digits_len.ensures.is c.split_at.ensures.front c.split_at.ensures.back (grind arith) c.in-Some.ensures c.constant.ensures
