-- The first in a list, and the first in the text of what is the first of its function.
use Rattle.std.specs.Prelude.{◌≡◌, ◌⊎◌, ◌<◌, ℕ, Option, None, Some, List, ◌∷◌, ◌++◌, All, MatchOption}
use Rattle.c_syntax_written.specs.declared.place.Pos.{Pos}
use Rattle.c_layout.specs.Calls.{IsBefore}

-- of those of which this is so the first in the list
pub record IsFirst {A : Type 0} (Asked : A → Type 0) (list : List A) (a : A) : Type 0 where
  pub front : List A
  pub back : List A
  pub is : list ≡ front ++ a ∷ back
  pub asked : Asked a
  pub before : All (λ other. Asked other → ⊥) front

-- one function has this as its first, and that of no other function stands before it in the text
pub record IsEarliest {A : Type 0} (place : A → Pos) (IsFirstOf : ℕ → A → Type 0) (a : A) : Type 0 where
  pub function : ℕ
  pub first_here : IsFirstOf function a
  pub first : (f : ℕ) (other : A) → IsFirstOf f other → IsBefore (place other) (place a) → ⊥

-- the same among the functions below a number
pub record IsEarliestBelow {A : Type 0} (place : A → Pos) (IsFirstOf : ℕ → A → Type 0) (n : ℕ) (a : A) : Type 0 where
  pub function : ℕ
  pub first_here : IsFirstOf function a
  pub first : (f : ℕ) (other : A) → f < n → IsFirstOf f other → IsBefore (place other) (place a) → ⊥

-- what was found among the functions below a number
abbrev pub IsFoundBelow : {A : Type 0} → (A → Pos) → (ℕ → A → Type 0) → ℕ → Option A → Type 0
IsFoundBelow place IsFirstOf n found =
    MatchOption found ((f : ℕ) (a : _) → f < n → IsFirstOf f a → ⊥) (IsEarliestBelow place IsFirstOf n)

-- the second, where it is there and stands before the first or that is not there, and else the first
abbrev pub IsEarlier : {A : Type 0} → (A → Pos) → Option A → Option A → Option A → Type 0
IsEarlier place found None result = result ≡ found
IsEarlier place None (Some next) result = result ≡ Some next
IsEarlier place (Some first) (Some next) result =
    ((result ≡ Some next) × IsBefore (place next) (place first)) ⊎ ((result ≡ Some first) × (IsBefore (place next) (place first) → ⊥))
