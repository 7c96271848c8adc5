-- Cases of a switch: heads that are of no label, and tests.
use Rattle.std.proofs.Common.{◌≡◌, ⊎_elim, ℕ, ℤ, Some, Bool, List, [], ◌∷◌, ◌++◌, ◌∙◌, refl}
use Rattle.std.specs.Ordering.{int_eq}
use Rattle.std.proofs.lemmas.Bool.Decides.{Decides-int_eq}
use Rattle.c_syntax_written.specs.declared.int_type.IntType.{IntType}
use Rattle.block_mem.specs.declared.types.Value.TheVariants as values
use Rattle.c_values.specs.Values.{bit}
use Rattle.csharp.specs.Trees.{Case, CsExprTree}
use Rattle.csharp.specs.States.{State, value_of}
use Rattle.csharp.specs.Meaning.{AtCase, is_mark}
use Rattle.std.proofs.Common.{true}
use Rattle.walk_owes.specs.declared.marks.Head.{Head}
use Rattle.walk_owes.specs.declared.marks.Mark.TheVariants as marks
use Rattle.walk_owes.specs.Heads.{IsHead}
use Rattle.walk_owes.specs.Owes.{HasTruth}
use Rattle.walk_owes.specs.Walkable.{equals}
use Rattle.walk_owes.proofs.Heads.{is_head_last}
use Rattle.walk_owes.proofs.Switches.{bit_truth, equals_value}

pub no_labels_more : {M : Type 0} (xs : List (Head M)) (x : Head M) → ((l : ℕ) → IsHead xs l → ⊥) → ((l : ℕ) → x.mark ≡ marks.Label l → ⊥) → (l : ℕ)
    → IsHead (xs ++ x ∷ []) l → ⊥
no_labels_more xs x f g l h = ⊎_elim (λ a. f l a) (λ e. g l e) (is_head_last xs x l h)

pub case_label : (n : ℤ) (l : ℕ) → marks.Case n ≡ marks.Label l → ⊥
case_label n l e = absurd (cc)

pub default_label : (l : ℕ) → marks.Default ≡ marks.Label l → ⊥
default_label l e = absurd (cc)

-- the truth of a case's test
pub test_truth : (e : CsExprTree) (s : State) (t u : IntType) (k n : ℤ) (b : Bool) → value_of e s ≡ Some (values.Int u k) → int_eq k n ≡ b → HasTruth (equals t e n) b s
test_truth e s t u k n b h i = (bit (int_eq k n), equals_value e s t u k n h, bit_truth (int_eq k n) ∙ i)

pub own_case : (n : ℤ) → is_mark (AtCase n) (Case n) ≡ true
own_case n = (Decides-int_eq n n).1 refl
