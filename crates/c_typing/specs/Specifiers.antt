-- What the words and types that begin a declaration say together.
use Rattle.std.specs.Prelude.{◌==◌, Bool, true, false, ◌&&◌, ◌||◌, if◌then◌else◌, Option, Some, None, option_map, List, [], ◌∷◌, ◌++◌, count_by, find}
use Rattle.c_syntax_written.specs.declared.place.Pos.{Pos}
use Rattle.c_syntax_written.specs.declared.int_type.IntType.TheVariants as ints
use Rattle.c_syntax_written.specs.declared.written.StorageWord.{StorageWord}
use Rattle.c_syntax_written.specs.declared.written.StorageWord.TheVariants.{Register}
use Rattle.c_syntax_written.specs.declared.written.TypeWord.{TypeWord}
use Rattle.c_syntax_written.specs.declared.written.TypeWord.TheVariants as words
use Rattle.c_syntax.specs.Types.{CTypeTree, Void, Int, Array}
use Rattle.c_layout.specs.WellTyped.{is_array}
use Rattle.c_typing.specs.World.{World, Form, Plain, Unsized, Callable, Outcome, Typed, Refused, Undeclared}

-- the words and the types of specs so far
pub record SpecsTree : Type 0 where
  pub storage : List StorageWord
  pub is_const : Bool
  pub words : List TypeWord
  pub types : List Form

abbrev pub no_specs_yet : SpecsTree
no_specs_yet = record { storage = []; is_const = false; words = []; types = [] }

-- one of the words and types
pub data SpecPart : Type 0 where
  StoragePart : StorageWord → SpecPart
  ConstPart : SpecPart
  WordPart : TypeWord → SpecPart
  TypePart : Form → SpecPart

abbrev pub with_part : SpecsTree → SpecPart → SpecsTree
with_part s (StoragePart word) = record s { storage = s.storage ++ word ∷ [] }
with_part s ConstPart = record s { is_const = true }
with_part s (WordPart word) = record s { words = s.words ++ word ∷ [] }
with_part s (TypePart form) = record s { types = s.types ++ form ∷ [] }

abbrev pub is_word : TypeWord → TypeWord → Bool
is_word words.Void words.Void = true
is_word words.Char words.Char = true
is_word words.Short words.Short = true
is_word words.Int words.Int = true
is_word words.Long words.Long = true
is_word words.Signed words.Signed = true
is_word words.Unsigned words.Unsigned = true
is_word a b = false

-- the word stands as often in the one list as in the other
abbrev pub is_as_often : List TypeWord → List TypeWord → TypeWord → Bool
is_as_often xs ys word = count_by (is_word word) xs == count_by (is_word word) ys

-- two lists of type words with the same words, in any order (C11 6.7.2p2)
abbrev pub are_same_words : List TypeWord → List TypeWord → Bool
are_same_words xs ys =
    (is_as_often xs ys words.Void && is_as_often xs ys words.Char)
    && ((is_as_often xs ys words.Short && is_as_often xs ys words.Int)
    && (is_as_often xs ys words.Long && (is_as_often xs ys words.Signed && is_as_often xs ys words.Unsigned)))

-- the lists of type words, with the type that each names (C11 6.7.2p2)
abbrev pub type_lists : List (List TypeWord × CTypeTree)
type_lists =
    (words.Void ∷ [], Void)
    ∷ (words.Char ∷ [], Int ints.Char)
    ∷ (words.Signed ∷ words.Char ∷ [], Int ints.SChar)
    ∷ (words.Unsigned ∷ words.Char ∷ [], Int ints.UChar)
    ∷ (words.Short ∷ [], Int ints.Short)
    ∷ (words.Signed ∷ words.Short ∷ [], Int ints.Short)
    ∷ (words.Short ∷ words.Int ∷ [], Int ints.Short)
    ∷ (words.Signed ∷ words.Short ∷ words.Int ∷ [], Int ints.Short)
    ∷ (words.Unsigned ∷ words.Short ∷ [], Int ints.UShort)
    ∷ (words.Unsigned ∷ words.Short ∷ words.Int ∷ [], Int ints.UShort)
    ∷ (words.Int ∷ [], Int ints.Int)
    ∷ (words.Signed ∷ [], Int ints.Int)
    ∷ (words.Signed ∷ words.Int ∷ [], Int ints.Int)
    ∷ (words.Unsigned ∷ [], Int ints.UInt)
    ∷ (words.Unsigned ∷ words.Int ∷ [], Int ints.UInt)
    ∷ (words.Long ∷ [], Int ints.Long)
    ∷ (words.Signed ∷ words.Long ∷ [], Int ints.Long)
    ∷ (words.Long ∷ words.Int ∷ [], Int ints.Long)
    ∷ (words.Signed ∷ words.Long ∷ words.Int ∷ [], Int ints.Long)
    ∷ (words.Unsigned ∷ words.Long ∷ [], Int ints.ULong)
    ∷ (words.Unsigned ∷ words.Long ∷ words.Int ∷ [], Int ints.ULong)
    ∷ (words.Long ∷ words.Long ∷ [], Int ints.LLong)
    ∷ (words.Signed ∷ words.Long ∷ words.Long ∷ [], Int ints.LLong)
    ∷ (words.Long ∷ words.Long ∷ words.Int ∷ [], Int ints.LLong)
    ∷ (words.Signed ∷ words.Long ∷ words.Long ∷ words.Int ∷ [], Int ints.LLong)
    ∷ (words.Unsigned ∷ words.Long ∷ words.Long ∷ [], Int ints.ULLong)
    ∷ (words.Unsigned ∷ words.Long ∷ words.Long ∷ words.Int ∷ [], Int ints.ULLong)
    ∷ []

-- the type that these words name, if they are one of the lists
abbrev pub type_by_words : List TypeWord → Option CTypeTree
type_by_words list = option_map (λ row. row.1) (find (λ row. are_same_words row.0 list) type_lists)

-- an array that is const is one of const elements (C11 6.7.3p9)
abbrev pub with_const_elements : CTypeTree → Bool → CTypeTree
with_const_elements (Array of is_const n) const = Array (with_const_elements of const) (if is_array of then false else is_const || const) n
with_const_elements ty const = ty

-- a type, const where it is or where the word `const` stands beside it; const of a function is ignored (this profile)
abbrev pub qualified : Bool → Form → Form
qualified const (Plain ty is_const) = if is_array ty then Plain (with_const_elements ty const) false else Plain ty (is_const || const)
qualified const (Unsized of is_const) = if is_array of then Unsized (with_const_elements of const) false else Unsized of (is_const || const)
qualified const (Callable params result) = Callable params result

abbrev pub whole_type : Option CTypeTree → Option Form
whole_type ty = option_map (λ t. Plain t false) ty

-- the type that specs name: by their type words, or by one struct, enumeration or typedef name (C11 6.7.2p2)
abbrev pub named_type : List TypeWord → List Form → Option Form
named_type words [] = whole_type (type_by_words words)
named_type [] (form ∷ []) = Some form
named_type words types = None

-- what may stand among specs: any one storage word in a declaration, `register` in a parameter, and none in a member, a cast or a sizeof
-- (C11 6.7.1p2, 6.7.6.3p2, this profile)
pub data Place : Type 0 where
  OfDeclaration : Place
  OfParameter : Place
  OfPlainType : Place

abbrev pub is_storage_allowed : Place → List StorageWord → Bool
is_storage_allowed place [] = true
is_storage_allowed OfDeclaration (word ∷ []) = true
is_storage_allowed OfParameter (Register ∷ []) = true
is_storage_allowed place words = false

abbrev pub or_undeclared : Pos → Option Form → World → Outcome Form
or_undeclared at None w = Refused (Undeclared at)
or_undeclared at (Some form) w = Typed form w

-- the type that specs tell, else they are Undeclared at their first token
abbrev pub type_told : Place → Pos → SpecsTree → World → Outcome Form
type_told place at s w =
    if is_storage_allowed place s.storage then or_undeclared at (option_map (qualified s.is_const) (named_type s.words s.types)) w
    else Refused (Undeclared at)
