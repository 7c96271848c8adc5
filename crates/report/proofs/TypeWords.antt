-- The words of a type, by the forms of types.
use Rattle.std.proofs.Common.{◌≡◌, ◌++◌, ℕ, Bool, List, [], refl, sym, ap, ◌∙◌, append_assoc}
use Rattle.std.specs.Prelude.{codes, slice_get, unwrap_or}
use Rattle.c_syntax_written.specs.declared.int_type.IntType.{IntType}
use Rattle.c_syntax.specs.Types.{CTypeTree, Void, Int, Pointer, Array, Struct, Function}
use Rattle.c_syntax.proofs.TypeTrees.{type_trees}
use Rattle.report.specs.Words.{int_text}
use Rattle.report.specs.TypeText.{array_front, struct_text, type_text}

pub void_text : (tags : List (List ℕ)) → type_text tags Void ≡ codes "void"
unfolding type_text
void_text tags = refl

pub int_type_text : (tags : List (List ℕ)) (t : IntType) → type_text tags (Int t) ≡ int_text t
unfolding type_text
int_type_text tags t = refl

pub pointer_text : (tags : List (List ℕ)) (to : CTypeTree) (is_const : Bool) → type_text tags (Pointer to is_const) ≡ codes "pointer to " ++ type_text tags to
unfolding type_text
pointer_text tags to is_const = refl

pub array_text : (tags : List (List ℕ)) (of : CTypeTree) (is_const : Bool) (n : ℕ) → type_text tags (Array of is_const n) ≡ array_front n ++ type_text tags of
unfolding type_text
array_text tags of is_const n = refl

pub struct_type_text : (tags : List (List ℕ)) (n : ℕ) → type_text tags (Struct n) ≡ struct_text (unwrap_or (slice_get tags n) [])
unfolding type_text
struct_type_text tags n = refl

pub function_text : (tags : List (List ℕ)) (n : ℕ) → type_text tags (Function n) ≡ codes "function"
unfolding type_text
function_text tags n = refl

pub ruleset the_types = (type_trees, void_text, int_type_text, pointer_text, array_text, struct_type_text, function_text)

-- what is told so far grows by a piece, with which the words of what is left begin
pub told_more : (before after piece whole left all : List ℕ) → after ≡ before ++ piece → whole ≡ piece ++ left → before ++ whole ≡ all → after ++ left ≡ all
told_more before after piece whole left all grown parts told =
    ap (λ (text : List ℕ). text ++ left) grown ∙ append_assoc before piece left ∙ ap (λ (text : List ℕ). before ++ text) (sym parts) ∙ told
