use Rattle.std.proofs.Common.{◌+◌, ◌≤◌, length}
use Rattle.c_lexer.specs.Cut.{Front, start_of}
use Rattle.c_lexer.proofs.cut.lex.Given as goal

abbrev pub invariant-loop-rest : goal.invariant-loop-rest
invariant-loop-rest l = record {
  front : Front l.bytes (start_of l.fn.file) l.tokens.items l.rest l.at;
  line : l.at.line + length l.rest ≤ 1 + length l.bytes;
  col : l.at.col + length l.rest ≤ 1 + length l.bytes;
}

abbrev pub decreases-loop-rest : goal.decreases-loop-rest
decreases-loop-rest l = length l.rest
