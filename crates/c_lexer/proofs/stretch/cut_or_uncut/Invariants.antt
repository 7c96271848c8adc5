use Rattle.std.proofs.Common.{◌+◌, ◌≤◌, List, length}
use Rattle.c_syntax_written.specs.declared.token.Placed.{Placed}
use Rattle.c_lexer.specs.Cut.{Front, start_of}
use Rattle.c_lexer.proofs.stretch.cut_or_uncut.Given as goal

abbrev pub invariant-loop-rest : goal.invariant-loop-rest
invariant-loop-rest l = record {
  front : (ts : List Placed) × Front l.bytes (start_of l.fn.file) ts l.rest l.at;
  line : l.at.line + length l.rest ≤ 1 + length l.bytes;
  col : l.at.col + length l.rest ≤ 1 + length l.bytes;
}

abbrev pub decreases-loop-rest : goal.decreases-loop-rest
decreases-loop-rest l = length l.rest
