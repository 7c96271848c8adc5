-- The least name from a number on, and the objects up to it.
use Rattle.std.proofs.Common.{◌≡◌, ◌≤◌, ◌<◌, ◌+◌, ◌-◌, ◌++◌, ◌||◌, ◌∷◌, ◌∙◌, ℕ, zero, suc, Bool, true, false, List, [], Some, arith, ap, length, map, refl, slice_get, subst, sym}
use Rattle.std.specs.Prelude.{drop}
use Rattle.std.specs.Prelude.{option_map}
use Rattle.std.specs.List.{drop-map}
use Rattle.std.proofs.lemmas.Option.{slice_get-map}
use Rattle.c_syntax.specs.declared.types.Object.{Object}
use Rattle.c_syntax.specs.Types.{ObjectTree, object_tree}
use Rattle.report_alarms.specs.Named.{IsNextName}
use Rattle.report_alarms.specs.ReportText.{has_name, named_from, named_word, sized_text}

-- objects of which none is named
pub none_named : (names : List ℕ) (from : ℕ) (objects : List ObjectTree) → ((n : ℕ) → from ≤ n → n < from + length objects → has_name names n ≡ false)
    → named_from names from objects ≡ []
unfolding named_from
none_named names from [] h = refl
none_named names from (object ∷ objects) h =
    ap (λ b. named_word b object ++ named_from names (suc from) objects) (h from (omega arith) (omega arith))
    ∙ none_named names (suc from) objects (λ n low high. h n (omega arith) (omega arith))

-- the first one that is named
pub first_named : (names : List ℕ) (from gap : ℕ) (objects : List ObjectTree) (object : ObjectTree) → slice_get objects gap ≡ Some object
    → ((n : ℕ) → from ≤ n → n < from + gap → has_name names n ≡ false) → has_name names (from + gap) ≡ true
    → named_from names from objects ≡ sized_text object ∷ named_from names (suc (from + gap)) (drop (suc gap) objects)
unfolding named_from
first_named names from gap [] object at h named = absurd cc
first_named names from zero (o ∷ objects) object at h named =
    let same : o ≡ object = cc in
    let here : from + zero ≡ from = omega arith in
    ap (λ b. named_word b o ++ named_from names (suc from) objects) (subst (λ n. has_name names n ≡ true) here named)
    ∙ ap (λ x. sized_text x ∷ named_from names (suc from) objects) same
    ∙ ap (λ n. sized_text object ∷ named_from names (suc n) objects) (sym here)
first_named names from (suc gap) (o ∷ objects) object at h named =
    let there : from + suc gap ≡ suc from + gap = omega arith in
    ap (λ b. named_word b o ++ named_from names (suc from) objects) (h from (omega arith) (omega arith))
    ∙ first_named names (suc from) gap objects object at (λ n low high. h n (omega arith) (omega arith)) (subst (λ n. has_name names n ≡ true) there named)
    ∙ ap (λ n. sized_text object ∷ named_from names (suc n) (drop (suc gap) objects)) (sym there)

pub or_false : (b : Bool) → (b || false) ≡ b
or_false true = refl
or_false false = refl

pub or_true : (b : Bool) → (b || true) ≡ true
or_true true = refl
or_true false = refl

-- a number before the end of what is left is before the next name, which lies past that end
pub before : (from next count n : ℕ) → from ≤ next → count ≤ next - from → n < from + count → n < next
before from next count n behind past high = omega arith

next_number : (from gap next : ℕ) → from + gap ≡ next → suc (from + gap) ≡ next + 1
next_number from gap next e = omega arith

-- from one name to behind the next
pub step_to : (names : List ℕ) (from gap next : ℕ) (left rest : List Object) (object : Object) → IsNextName names from next → from + gap ≡ next
    → slice_get left gap ≡ Some object → rest ≡ drop (suc gap) left
    → named_from names from (map object_tree left) ≡ sized_text (object_tree object) ∷ named_from names (next + 1) (map object_tree rest)
step_to names from gap next left rest object h sum at behind =
    first_named names from gap (map object_tree left) (object_tree object) (slice_get-map object_tree left gap ∙ ap (option_map object_tree) at)
    (λ n low high. h.least n low (subst (λ k. n < k) sum high)) (subst (λ k. has_name names k ≡ true) (sym sum) h.named)
    ∙ ap (λ os. sized_text (object_tree object) ∷ named_from names (suc (from + gap)) os) (drop-map object_tree (suc gap) left ∙ ap (map object_tree) (sym behind))
    ∙ ap (λ k. sized_text (object_tree object) ∷ named_from names k (map object_tree rest)) (next_number from gap next sum)

-- what is left behind the next name
pub left_over : (from gap next count rest all : ℕ) → from + gap ≡ next → gap < count → rest ≡ count - suc gap → from + count ≡ all → next + 1 + rest ≡ all
left_over from gap next count rest all sum inside behind e = omega arith
