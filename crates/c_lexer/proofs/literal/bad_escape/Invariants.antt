use Rattle.std.proofs.Common.{ℕ, List, ◌<◌, map, Some, length, drop}
use Rattle.c_lexer.specs.Spelling.{Reads}
use Rattle.c_lexer.proofs.literal.bad_escape.Given as goal

abbrev pub invariant-loop-value : goal.invariant-loop-value
invariant-loop-value l = record {
  reads : (us : List ℕ) × Reads 34 (drop 1 l.literal) (map Some us) l.rest;
  short : length l.rest < length l.literal;
}

abbrev pub decreases-loop-value : goal.decreases-loop-value
decreases-loop-value l = length l.rest
