-- How often each type word stands among type words.
use Rattle.std.specs.Prelude.{ℕ, Option, Some, None, List, [], ◌∷◌, count_by}
use Rattle.c_syntax_written.specs.declared.int_type.IntType.{IntType}
use Rattle.c_syntax_written.specs.declared.written.TypeWord.{TypeWord}
use Rattle.c_syntax_written.specs.declared.written.TypeWord.TheVariants as words
use Rattle.c_syntax.specs.Types.{CTypeTree, Void, Int}
use Rattle.c_typing.specs.Specifiers.{is_word}

abbrev pub counts_of : List TypeWord → List ℕ
counts_of list =
    count_by (is_word words.Void) list
    ∷ count_by (is_word words.Char) list
    ∷ count_by (is_word words.Short) list
    ∷ count_by (is_word words.Int) list
    ∷ count_by (is_word words.Long) list
    ∷ count_by (is_word words.Signed) list
    ∷ count_by (is_word words.Unsigned) list
    ∷ []

-- the integer type, where it is one
abbrev pub int_in : CTypeTree → Option IntType
int_in (Int t) = Some t
int_in ty = None

-- a type that is an integer type, or void
abbrev pub type_in : Option IntType → CTypeTree
type_in None = Void
type_in (Some t) = Int t
