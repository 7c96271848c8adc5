use Rattle.std.proofs.Common.{map, Some, take, sym, subst}
use Rattle.c_lexer.specs.Spelling.{IsLiteral}
use Rattle.c_lexer.specs.Piece.{HasCharacters}
use Rattle.c_lexer.proofs.PieceLemmas.{string_piece, bad_string_piece, open_string_piece}
use Rattle.c_lexer.proofs.piece.string.Goals as goal

pub returns-in-None : goal.returns-in-None
returns-in-None c = open_string_piece c.args.bytes.now c.in-None.ensures

pub returns-in-All : goal.returns-in-All
returns-in-All c =
    let h = subst (λ v. HasCharacters (take c.in-Some.n c.args.bytes.now) v) c.in-All.is c.in_ok-characters-in-Some.ensures in
    string_piece c.args.bytes.now c.in-Some.n c.from_vec.result c.in-Some.ensures c.requires.first (subst (λ v. IsLiteral 34 (map Some v) (take c.in-Some.n c.args.bytes.now)) (sym c.from_vec.ensures) h)

pub returns-in-Bad : goal.returns-in-Bad
returns-in-Bad c = let h = subst (λ v. HasCharacters (take c.in-Some.n c.args.bytes.now) v) c.in-Bad.is c.in_ok-characters-in-Some.ensures in bad_string_piece c.args.bytes.now c.in-Some.n c.in-Bad.place c.in-Some.ensures c.requires.first h.0 h.1
