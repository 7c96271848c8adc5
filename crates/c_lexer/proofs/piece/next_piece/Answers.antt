use Rattle.std.proofs.Common.{refl}
use Rattle.c_lexer.proofs.PieceLemmas.{blank_piece}
use Rattle.c_lexer.proofs.piece.next_piece.Goals as goal

pub returns-then-is_blank : goal.returns-then-is_blank
returns-then-is_blank c = blank_piece c.args.bytes.now c.requires (c.if-is_blank.ensures.0 refl)
