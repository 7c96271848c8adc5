use Rattle.std.proofs.Common.{ℕ, ◌+◌, ◌-◌, ◌<◌, ◌≤◌, length, get_or}
use Rattle.c_lexer.specs.Cut.{GoesOn}
use Rattle.c_lexer.proofs.number.number_len.Given as goal

abbrev pub invariant-loop-n : goal.invariant-loop-n
invariant-loop-n l = record {
  some : 1 ≤ l.n;
  within : l.n ≤ length l.bytes;
  all : (k : ℕ) → k + 1 < l.n → GoesOn (get_or l.bytes k 0) (get_or l.bytes (k + 1) 0);
}

abbrev pub decreases-loop-n : goal.decreases-loop-n
decreases-loop-n l = length l.bytes - l.n
