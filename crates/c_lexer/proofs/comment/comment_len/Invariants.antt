use Rattle.std.proofs.Common.{◌≡◌, ℕ, ◌+◌, ◌-◌, ◌<◌, ◌≤◌, length, get_or}
use Rattle.c_lexer.proofs.comment.comment_len.Given as goal

abbrev pub invariant-loop-k : goal.invariant-loop-k
invariant-loop-k l = record {
  from : 2 ≤ l.k;
  none : (j : ℕ) → 2 ≤ j → j < l.k → get_or l.bytes j 0 ≡ 42 → get_or l.bytes (j + 1) 0 ≡ 47 → ⊥;
}

abbrev pub decreases-loop-k : goal.decreases-loop-k
decreases-loop-k l = length l.bytes - l.k
