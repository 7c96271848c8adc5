-- What a brace that comes first is not.
use Rattle.std.proofs.Common.{◌≡◌, true, false, List, [], ◌∷◌, refl}
use Rattle.c_syntax_written.specs.declared.token.Placed.{Placed}
use Rattle.c_syntax_written.specs.declared.token.Punctuator.{Punctuator}
use Rattle.c_syntax_written.specs.declared.token.Punctuator.TheVariants as signs
use Rattle.c_syntax_written.specs.declared.token.Token.{Token}
use Rattle.c_syntax_written.specs.declared.token.Token.TheVariants as kinds
use Rattle.c_grammar.specs.Refused.{begins_designator, first_is, is_brace}

brace_sign : (p : Punctuator) → is_brace (kinds.Punctuator p) ≡ true → begins_designator (kinds.Punctuator p) ≡ false
brace_sign signs.LeftBracket h = cc
brace_sign signs.Dot h = cc
brace_sign _ h = refl

brace_token : (t : Token) → is_brace t ≡ true → begins_designator t ≡ false
brace_token (kinds.Punctuator p) h = brace_sign p h
brace_token _ h = refl

-- a brace begins no designator
pub brace_first : (ts : List Placed) → first_is is_brace ts ≡ true → first_is begins_designator ts ≡ false
brace_first [] h = refl
brace_first (t ∷ ts) h = brace_token t.token h
