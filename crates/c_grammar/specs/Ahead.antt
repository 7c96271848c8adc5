-- What the tokens that follow tell, where one production must look further than its first token.
use Rattle.std.specs.Prelude.{Bool, true, false, not, ◌&&◌, ◌||◌, List, [], ◌∷◌}
use Rattle.c_syntax_written.specs.declared.token.Keyword.{Keyword}
use Rattle.c_syntax_written.specs.declared.token.Keyword.TheVariants as keywords
use Rattle.c_syntax_written.specs.declared.token.Placed.{Placed}
use Rattle.c_syntax_written.specs.declared.token.Punctuator.TheVariants as signs
use Rattle.c_syntax_written.specs.declared.token.Token.{Token}
use Rattle.c_syntax_written.specs.declared.token.Token.TheVariants as kinds
use Rattle.c_grammar.specs.Parts.{Scene}
use Rattle.c_grammar.specs.Classes.{names_type}

-- a keyword that is a spec or begins one (C11 6.7.1 to 6.7.3)
unfoldable pub is_spec_word : Keyword → Bool
is_spec_word keywords.Typedef = true
is_spec_word keywords.Extern = true
is_spec_word keywords.Static = true
is_spec_word keywords.Auto = true
is_spec_word keywords.Register = true
is_spec_word keywords.Const = true
is_spec_word keywords.Void = true
is_spec_word keywords.Char = true
is_spec_word keywords.Short = true
is_spec_word keywords.Int = true
is_spec_word keywords.Long = true
is_spec_word keywords.Signed = true
is_spec_word keywords.Unsigned = true
is_spec_word keywords.Struct = true
is_spec_word keywords.Enum = true
is_spec_word _ = false

-- the token begins specs
abbrev pub begins_spec : Scene → Token → Bool
begins_spec w (kinds.Word name) = names_type w name
begins_spec w (kinds.Keyword k) = is_spec_word k
begins_spec w _ = false

-- the first token begins specs
abbrev pub spec_ahead : Scene → List Placed → Bool
spec_ahead w [] = false
spec_ahead w (t ∷ rest) = begins_spec w t.token

abbrev pub no_spec_ahead : Scene → List Placed → Bool
no_spec_ahead w ts = not (spec_ahead w ts)

abbrev pub is_open : Token → Bool
is_open (kinds.Punctuator signs.LeftParenthesis) = true
is_open _ = false

-- a parenthesis before a type (C11 6.5.3 and 6.5.4)
abbrev pub type_ahead : Scene → List Placed → Bool
type_ahead w [] = false
type_ahead w (t ∷ rest) = is_open t.token && spec_ahead w rest

abbrev pub no_type_ahead : Scene → List Placed → Bool
no_type_ahead w ts = not (type_ahead w ts)

abbrev pub is_colon : Token → Bool
is_colon (kinds.Punctuator signs.Colon) = true
is_colon _ = false

abbrev pub colon_ahead : List Placed → Bool
colon_ahead [] = false
colon_ahead (t ∷ rest) = is_colon t.token

abbrev pub is_plain_word : Scene → Token → Bool
is_plain_word w (kinds.Word name) = not (names_type w name)
is_plain_word w _ = false

-- a word before a colon (C11 6.8.1)
abbrev pub label_ahead : Scene → List Placed → Bool
label_ahead w [] = false
label_ahead w (t ∷ rest) = is_plain_word w t.token && colon_ahead rest

abbrev pub no_label_ahead : Scene → List Placed → Bool
no_label_ahead w ts = not (label_ahead w ts)

abbrev pub is_left_bracket : Token → Bool
is_left_bracket (kinds.Punctuator signs.LeftBracket) = true
is_left_bracket _ = false

-- of the brackets `[` alone begins no statement
abbrev pub no_left_bracket : List Placed → Bool
no_left_bracket [] = true
no_left_bracket (t ∷ rest) = not (is_left_bracket t.token)

-- no token is left
abbrev pub at_end : List Placed → Bool
at_end [] = true
at_end (t ∷ rest) = false

-- the first token is a parenthesis that closes
abbrev pub is_close : Token → Bool
is_close (kinds.Punctuator signs.RightParenthesis) = true
is_close _ = false

abbrev pub close_ahead : List Placed → Bool
close_ahead [] = false
close_ahead (t ∷ rest) = is_close t.token

-- a parenthesis that opens parameters, where no word is declared before it
abbrev pub params_ahead : Scene → List Placed → Bool
params_ahead w [] = false
params_ahead w (t ∷ rest) = is_open t.token && (spec_ahead w rest || close_ahead rest)

-- a parenthesis here, where there is one, opens parameters and groups no declarator
abbrev pub no_group_ahead : Scene → List Placed → Bool
no_group_ahead w [] = true
no_group_ahead w (t ∷ rest) = not (is_open t.token) || params_ahead w (t ∷ rest)
