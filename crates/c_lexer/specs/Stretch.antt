-- What stands at the front of a text, by its length alone.
use Rattle.std.specs.Prelude.{◌≡◌, ℕ, List}
use Rattle.c_lexer.specs.Piece.{IsPiece}
use Rattle.c_lexer.specs.declared.piece.Piece.{Piece}
use Rattle.c_lexer.specs.declared.piece.Piece.TheVariants as pieces
use Rattle.c_lexer.specs.declared.stretch.Stretch.{Stretch}
use Rattle.c_lexer.specs.declared.stretch.Stretch.TheVariants as stretches

-- white space or a token has its length, and a refusal its place
abbrev pub stretch_of : Piece → Stretch
stretch_of (pieces.White n) = stretches.Over n
stretch_of (pieces.Token t n) = stretches.Over n
stretch_of (pieces.Refused reason n) = stretches.Refused reason n
stretch_of pieces.Hash = stretches.Hash

-- something of this length stands at the front
abbrev pub IsStretch : List ℕ → Stretch → Type 0
IsStretch text x = (p : Piece) × IsPiece text p × (x ≡ stretch_of p)
