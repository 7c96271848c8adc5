use Rattle.std.proofs.Common.{ℕ, ◌<◌, List, Option, length, drop}
use Rattle.c_lexer.specs.Spelling.{Reads}
use Rattle.c_lexer.proofs.literal.literal_len.Given as goal

abbrev pub invariant-loop-after : goal.invariant-loop-after
invariant-loop-after l = record {
  reads : (vs : List (Option ℕ)) × Reads l.quote (drop 1 l.bytes) vs l.rest;
  short : length l.rest < length l.bytes;
}

abbrev pub decreases-loop-after : goal.decreases-loop-after
decreases-loop-after l = length l.rest
