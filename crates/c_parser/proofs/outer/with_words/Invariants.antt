use Rattle.std.proofs.Common.{◌≡◌, ◌++◌, drop}
use Rattle.c_parser.proofs.NewTypes.{words_of}
use Rattle.c_parser.proofs.outer.with_words.Given as goal

-- the words so far and those that are left are all
abbrev pub invariant-loop-item : goal.invariant-loop-item
invariant-loop-item l = l.names ++ words_of (drop l.item-index l.inits) ≡ l.fn.types ++ words_of l.inits
