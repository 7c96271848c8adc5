-- Types among specs, by the last of them.
use Rattle.std.proofs.Common.{◌≡◌, refl, List, [], ◌∷◌, ◌++◌, length, None}
use Rattle.c_syntax_written.specs.declared.written.TypeWord.{TypeWord}
use Rattle.c_typing.specs.World.{Form}
use Rattle.c_typing.specs.Specifiers.{named_type}

-- one that is not alone names no type
pub named_none : (words : List TypeWord) (rest : List Form) (form : Form) → (length words ≡ 0 → length rest ≡ 0 → ⊥) → named_type words (rest ++ form ∷ []) ≡ None
named_none [] [] form h = absurd (h refl refl)
named_none [] (x ∷ []) form h = refl
named_none [] (x ∷ y ∷ rest) form h = refl
named_none (word ∷ words) [] form h = refl
named_none (word ∷ words) (x ∷ rest) form h = refl
