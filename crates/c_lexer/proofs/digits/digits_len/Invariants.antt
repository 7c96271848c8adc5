use Rattle.std.proofs.Common.{◌≡◌, ◌+◌, length}
use Rattle.c_lexer.specs.Spelling.{digits_of}
use Rattle.c_lexer.proofs.digits.digits_len.Given as goal

abbrev pub invariant-loop-rest : goal.invariant-loop-rest
invariant-loop-rest l = record {
  is : l.len + length (digits_of l.base l.rest) ≡ length (digits_of l.base l.bytes);
  within : l.len + length l.rest ≡ length l.bytes;
}

abbrev pub decreases-loop-rest : goal.decreases-loop-rest
decreases-loop-rest l = length l.rest
