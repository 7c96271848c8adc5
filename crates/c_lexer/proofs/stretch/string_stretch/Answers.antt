use Rattle.std.proofs.Common.{refl}
use Rattle.c_syntax_written.specs.declared.token.Token.TheVariants as kinds
use Rattle.c_lexer.specs.declared.reason.Reason.TheVariants as reasons
use Rattle.c_lexer.specs.declared.piece.Piece.TheVariants as pieces
use Rattle.c_lexer.proofs.PieceLemmas.{string_piece, bad_string_piece, open_string_piece}
use Rattle.c_lexer.proofs.stretch.string_stretch.Goals as goal

pub returns-in-None : goal.returns-in-None
returns-in-None c = (pieces.Refused reasons.Unterminated 0, open_string_piece c.args.bytes.now c.in-None.ensures, refl)

pub returns-in-None-bad_escape : goal.returns-in-None-bad_escape
returns-in-None-bad_escape c =
    let h = c.in-None-bad_escape.ensures in
    (pieces.Token (kinds.Text h.0) c.in-Some.n, string_piece c.args.bytes.now c.in-Some.n h.0 c.in-Some.ensures c.requires.first h.1, refl)

pub returns-in-Some-bad_escape : goal.returns-in-Some-bad_escape
returns-in-Some-bad_escape c =
    let h = c.in-Some-bad_escape.ensures in
    (pieces.Refused reasons.BadEscape c.in-Some-bad_escape.place, bad_string_piece c.args.bytes.now c.in-Some.n c.in-Some-bad_escape.place c.in-Some.ensures c.requires.first h.0 h.1, refl)
