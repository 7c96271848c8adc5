use Rattle.std.proofs.Common.{subst}
use Rattle.c_lexer.specs.Piece.{IsCharacter}
use Rattle.c_lexer.proofs.CharacterLemmas.{no_quote}
use Rattle.c_lexer.proofs.literal.read_one.Goals as goal

pub returns-then-not-is_quote : goal.returns-then-not-is_quote
returns-then-not-is_quote c = no_quote c.args.literal.now c.in-Some.after.now c.in-Some.value (subst (λ v. IsCharacter 39 v c.in-Some.value c.in-Some.after.now) c.split_at.ensures.back c.in-Some.ensures) (λ h. let f = c.if-not-is_quote.ensures.1 h in absurd (cc))
