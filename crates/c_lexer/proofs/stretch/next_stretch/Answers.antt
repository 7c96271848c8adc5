use Rattle.std.proofs.Common.{refl}
use Rattle.c_lexer.specs.declared.piece.Piece.TheVariants as pieces
use Rattle.c_lexer.proofs.PieceLemmas.{blank_piece}
use Rattle.c_lexer.proofs.stretch.next_stretch.Goals as goal

pub returns-then-is_blank : goal.returns-then-is_blank
returns-then-is_blank c = (pieces.White 1, blank_piece c.args.bytes.now c.requires (c.if-is_blank.ensures.0 refl), refl)
