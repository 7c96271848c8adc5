-- Types as words.
use Rattle.std.specs.Prelude.{ℕ, List, [], ◌∷◌, ◌++◌, codes, decimal, slice_get, unwrap_or}
use Rattle.c_syntax.specs.Types.{CTypeTree, Void, Int, Pointer, Array, Struct, Function}
use Rattle.report.specs.Words.{int_text}

-- a struct without a tag is the word alone
abbrev pub struct_text : List ℕ → List ℕ
struct_text [] = codes "struct"
struct_text (b ∷ tag) = codes "struct " ++ (b ∷ tag)

abbrev pub array_front : ℕ → List ℕ
array_front n = codes "array of " ++ (decimal n ++ codes " ")

-- the words of a type from the outside in, where these are the tags of the structs by their numbers; const is not told
unfoldable pub type_text : List (List ℕ) → CTypeTree → List ℕ
type_text tags Void = codes "void"
type_text tags (Int t) = int_text t
type_text tags (Pointer to is_const) = codes "pointer to " ++ type_text tags to
type_text tags (Array of is_const n) = array_front n ++ type_text tags of
type_text tags (Struct n) = struct_text (unwrap_or (slice_get tags n) [])
type_text tags (Function n) = codes "function"
