use Rattle.std.proofs.Common.{arith}
use Rattle.c_lexer.proofs.Opens.{opens_more, opens_whole}
use Rattle.c_lexer.proofs.cut.opens_line.Goals as goal

pub loop-byte-preserved : goal.loop-byte-preserved
loop-byte-preserved c = opens_more c.args.before.now c.loop-byte.byte-index c.loop-byte.opens c.still_opens-opens.result (omega arith) c.loop-byte.invariant c.still_opens-opens.ensures

pub returns : goal.returns
returns c = opens_whole c.args.before.now c.loop-byte.byte-index c.loop-byte.opens (omega arith) c.loop-byte.invariant
