use Rattle.std.proofs.Common.{◌≡◌, length}
use Rattle.c_typing.specs.Decls.{is_word}
use Rattle.c_check_jumps.proofs.storage.is_word.Given as goal

abbrev pub invariant-each : goal.invariant-each
invariant-each l = is_word l.word l.left ≡ is_word l.word l.fn.words

abbrev pub decreases-each : goal.decreases-each
decreases-each l = length l.left
