use Rattle.std.proofs.Common.{◌≡◌, length}
use Rattle.c_lexer.specs.Spelling.{value_from}
use Rattle.c_lexer.proofs.digits.value_of.Given as goal

abbrev pub invariant-loop-rest : goal.invariant-loop-rest
invariant-loop-rest l = value_from l.base l.value l.rest ≡ value_from l.base 0 l.digits

abbrev pub decreases-loop-rest : goal.decreases-loop-rest
decreases-loop-rest l = length l.rest
