use Rattle.std.proofs.Common.{refl, sym, subst}
use Rattle.c_lexer.specs.Spelling.{char_value}
use Rattle.c_lexer.specs.Piece.{IsPiece}
use Rattle.c_lexer.specs.declared.piece.Piece.TheVariants as pieces
use Rattle.c_lexer.proofs.PieceLemmas.{character_piece, bad_character_piece, odd_character_piece, open_character_piece}
use Rattle.c_lexer.proofs.piece.constant.Goals as goal

pub returns-in-None : goal.returns-in-None
returns-in-None c = open_character_piece c.args.bytes.now c.in-None.ensures

pub returns-in-Value : goal.returns-in-Value
returns-in-Value c = subst (λ t. IsPiece c.args.bytes.now (pieces.Token t c.in-Some.n)) (sym c.character_token.ensures) (character_piece c.args.bytes.now c.in-Some.n c.in-Value.byte (char_value c.in-Value.byte) c.in-Some.ensures c.requires.first c.in-Value.ensures refl)

pub returns-in-Bad : goal.returns-in-Bad
returns-in-Bad c = bad_character_piece c.args.bytes.now c.in-Some.n c.in-Some.ensures c.requires.first c.in-Bad.ensures

pub returns-in-NotOne : goal.returns-in-NotOne
returns-in-NotOne c = odd_character_piece c.args.bytes.now c.in-Some.n c.in-Some.ensures c.requires.first c.in-NotOne.ensures
