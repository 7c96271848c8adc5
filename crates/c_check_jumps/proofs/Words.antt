-- Storage words, one after the other.
use Rattle.std.proofs.Common.{◌≡◌, ◌∙◌, ap, sym, refl, Bool, true, false, List, [], ◌∷◌}
use Rattle.std.specs.Prelude.{◌||◌, if◌then◌else◌, find, is_some, Some}
use Rattle.c_syntax_written.specs.declared.written.StorageWord.{StorageWord}
use Rattle.c_syntax_written.specs.declared.written.Spec.{Spec}
use Rattle.c_syntax_written.specs.Written.{more_specs, spec_tree, specs_from}
use Rattle.c_syntax_written.proofs.WrittenTrees.{specs_cons}
use Rattle.c_typing.specs.Context.{has_storage, is_storage}
use Rattle.c_typing.specs.Decls.{is_word}

pub none_stored : (word : StorageWord) → false ≡ has_storage word (specs_from [])
unfolding has_storage specs_from
none_stored word = refl

-- of one spec it is known whether it is the word
pub stored_by : (word : StorageWord) (is : Bool) (spec : Spec) (rest left : List Spec)
    → (is || has_storage word (specs_from rest)) ≡ has_storage word (more_specs (spec_tree spec) (specs_from rest)) → left ≡ spec ∷ rest
    → (is || has_storage word (specs_from rest)) ≡ has_storage word (specs_from left)
stored_by word is spec rest left e f = e ∙ ap (has_storage word) (sym (specs_cons spec rest) ∙ ap specs_from (sym f))

pub is_first : (word other : StorageWord) (rest left : List StorageWord) → is_storage word other ≡ true → left ≡ other ∷ rest → true ≡ is_word word left
is_first word other rest left e f =
    ap (λ b. is_some (if b then Some other else find (is_storage word) rest)) (sym e) ∙ ap (is_word word) (sym f)

pub is_later : (word other : StorageWord) (rest left : List StorageWord) → is_storage word other ≡ false → left ≡ other ∷ rest → is_word word rest ≡ is_word word left
is_later word other rest left e f =
    ap (λ b. is_some (if b then Some other else find (is_storage word) rest)) (sym e) ∙ ap (is_word word) (sym f)
