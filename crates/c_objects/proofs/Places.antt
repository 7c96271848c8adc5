-- Where objects live while blocks open and end.
use Rattle.std.proofs.Common.{◌≡◌, ◌<◌, ◌≤◌, ◌⊎◌, inl, inr, ℕ, List, [], ◌∷◌, length, Option, Some, None, refl, sym, ◌∙◌, subst}
use Rattle.std.specs.Prelude.{Contains, IsSome, slice_index_or, slice_set}
use Rattle.std.proofs.lemmas.Bool.{cases_eq, cases_lt}
use Rattle.std.proofs.lemmas.List.{get_or-set_same, get_or-set_other, length-set}
use Rattle.std.proofs.Math.ListN.{get_or-eq_default}
use Rattle.c_syntax.specs.Types.{ObjectTree}
use Rattle.c_values.specs.Places.{ObjectMemory, place_of}
use Rattle.c_objects.specs.Opening.{opened, open_all, shut, shut_all}
use Rattle.c_objects.specs.Lifetimes.{ScopesLeavePlaces}
use Rattle.c_objects.proofs.Listed.{by_head, by_sum, first_in, is_listed, none_in, rest_in}

pub some_not_none : {A : Type 0} (o : Option A) → o ≡ None → IsSome o → ⊥
some_not_none None e h = absurd (cc)
some_not_none (Some a) e h = absurd (cc)

place_past : (m : ObjectMemory) (x : ℕ) → (x < length m.places) ⊎ (length m.places ≤ x) → slice_index_or (slice_set m.places x None) x None ≡ None
place_past m x (inl lt) = get_or-set_same m.places x None None lt
place_past m x (inr le) = get_or-eq_default (slice_set m.places x None) None (subst (λ n. n ≤ x) (sym (length-set m.places x None)) le)

pub shut_gone : (m : ObjectMemory) (x : ℕ) → place_of (shut m x) x ≡ None
shut_gone m x = place_past m x (cases_lt x (length m.places))

pub shut_other : (m : ObjectMemory) (x y : ℕ) → (y ≡ x → ⊥) → place_of (shut m x) y ≡ place_of m y
shut_other m x y h = get_or-set_other m.places x y None None h

pub open_other : (objects : List ObjectTree) (m : ObjectMemory) (x y : ℕ) → (y ≡ x → ⊥) → place_of (opened objects m x) y ≡ place_of m y
open_other objects m x y h = get_or-set_other m.places x y (Some (length m.blocks)) None h

pub open_only : (objects : List ObjectTree) (m : ObjectMemory) (x y : ℕ) → (y ≡ x) ⊎ (y ≡ x → ⊥) → IsSome (place_of (opened objects m x) y) → IsSome (place_of m y) ⊎ (y ≡ x)
open_only objects m x y (inl e) h = inr e
open_only objects m x y (inr f) h = inl (subst (λ o. IsSome o) (open_other objects m x y f) h)

not_first : (x y : ℕ) (xs : List ℕ) → (Contains (x ∷ xs) y → ⊥) → y ≡ x → ⊥
not_first x y xs out e = out (subst (λ z. Contains (x ∷ xs) z) (sym e) (first_in x xs))

pub open_others : (objects : List ObjectTree) (xs : List ℕ) (m : ObjectMemory) (y : ℕ) → (Contains xs y → ⊥)
    → place_of (open_all objects m xs) y ≡ place_of m y
open_others objects [] m y out = refl
open_others objects (x ∷ xs) m y out =
    open_others objects xs (opened objects m x) y (λ c. out (rest_in x y xs c)) ∙ open_other objects m x y (not_first x y xs out)

pub shut_others : (xs : List ℕ) (m : ObjectMemory) (y : ℕ) → (Contains xs y → ⊥) → place_of (shut_all m xs) y ≡ place_of m y
shut_others [] m y out = refl
shut_others (x ∷ xs) m y out = shut_others xs (shut m x) y (λ c. out (rest_in x y xs c)) ∙ shut_other m x y (not_first x y xs out)

-- what does not live does not begin where others end
still_dead : (m : ObjectMemory) (x y : ℕ) → place_of m y ≡ None → (y ≡ x) ⊎ (y ≡ x → ⊥) → place_of (shut m x) y ≡ None
still_dead m x y h (inl e) = subst (λ z. place_of (shut m x) z ≡ None) (sym e) (shut_gone m x)
still_dead m x y h (inr other) = shut_other m x y other ∙ h

all_still_dead : (xs : List ℕ) (m : ObjectMemory) (y : ℕ) → place_of m y ≡ None → place_of (shut_all m xs) y ≡ None
all_still_dead [] m y h = h
all_still_dead (x ∷ xs) m y h = all_still_dead xs (shut m x) y (still_dead m x y h (cases_eq y x))

gone_first : (x : ℕ) (xs : List ℕ) (m : ObjectMemory) (y : ℕ) → x ≡ y → place_of (shut_all (shut m x) xs) y ≡ None
gone_first x xs m y e = all_still_dead xs (shut m x) y (subst (λ z. place_of (shut m x) z ≡ None) e (shut_gone m x))

pub all_gone : (xs : List ℕ) (m : ObjectMemory) (y : ℕ) → Contains xs y → place_of (shut_all m xs) y ≡ None
all_gone [] m y c = absurd (none_in y c)
all_gone (x ∷ xs) m y c = by_sum (by_head x y xs c) (λ e. gone_first x xs m y e) (λ d. all_gone xs (shut m x) y d)

left_case : (objects : List ObjectTree) (xs : List ℕ) (m n : ObjectMemory) (y : ℕ)
    → ((x : ℕ) → Contains xs x → place_of m x ≡ None) → place_of n y ≡ place_of (open_all objects m xs) y
    → Contains xs y ⊎ (Contains xs y → ⊥) → place_of (shut_all n xs) y ≡ place_of m y
left_case objects xs m n y free h (inl c) = all_gone xs n y c ∙ sym (free y c)
left_case objects xs m n y free h (inr out) = shut_others xs n y out ∙ h ∙ open_others objects xs m y out

pub scopes_leave : ScopesLeavePlaces
scopes_leave objects xs m n y free h = left_case objects xs m n y free h (is_listed y xs)
