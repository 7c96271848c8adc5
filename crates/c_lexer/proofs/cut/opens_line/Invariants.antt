use Rattle.std.proofs.Common.{◌↔◌, take, IsTrue}
use Rattle.c_lexer.specs.Uncut.{OpensLine}
use Rattle.c_lexer.proofs.cut.opens_line.Given as goal

abbrev pub invariant-loop-byte : goal.invariant-loop-byte
invariant-loop-byte l = IsTrue l.opens ↔ OpensLine (take l.byte-index l.before)
