-- Lifetimes of objects in scopes (C11 6.2.4).
use Rattle.std.specs.Prelude.{◌≡◌, ◌≤◌, ◌==◌, ℕ, List, [], ◌∷◌, None, IsSome, IsSomeAnd, IsTrue, Contains, count_by, slice_get}
use Rattle.c_syntax.specs.declared.program.Initial.{Initial}
use Rattle.c_syntax.specs.Types.{ObjectTree}
use Rattle.c_values.specs.Places.{ObjectMemory, place_of}
use Rattle.c_objects.specs.Opening.{open_all, shut_all}
use Rattle.c_objects.specs.Statics.{start}

-- no number stands twice in the list
abbrev pub AreDistinct : List ℕ → Type 0
AreDistinct [] = Unit {0}
AreDistinct (x ∷ xs) = (Contains xs x → ⊥) × AreDistinct xs

-- a list in which each number is counted once at most
abbrev pub CountsTellDistinct : Type 0
CountsTellDistinct = (xs : List ℕ) → ((y : ℕ) → count_by (λ x. x == y) xs ≤ 1) → AreDistinct xs

-- where objects that do not live begin, and all others stay where they are until these end, each object is where it was before
abbrev pub ScopesLeavePlaces : Type 0
ScopesLeavePlaces = (objects : List ObjectTree) (xs : List ℕ) (m n : ObjectMemory) (y : ℕ)
    → ((x : ℕ) → Contains xs x → place_of m x ≡ None) → place_of n y ≡ place_of (open_all objects m xs) y
    → place_of (shut_all n xs) y ≡ place_of m y

-- at the start of a run objects of static duration live, and no others (C11 6.2.4p3)
abbrev pub OnlyStaticsStart : Type 0
OnlyStaticsStart = (objects : List ObjectTree) (initials : List Initial) (x : ℕ)
    → IsSome (place_of (start objects initials) x) → IsSomeAnd (slice_get objects x) (λ o. IsTrue o.is_static)
