-- Which objects live at the start of a run.
use Rattle.std.proofs.Common.{◌≡◌, ◌+◌, ◌⊎◌, inl, inr, ℕ, zero, suc, List, [], ◌∷◌, length, Bool, true, false, Option, Some, None, refl, sym, ◌∙◌, subst, arith}
use Rattle.std.specs.Prelude.{if◌then◌else◌, IsSome, IsSomeAnd, IsTrue, slice_get, slice_index_or}
use Rattle.std.proofs.lemmas.Bool.{cases_eq}
use Rattle.c_syntax.specs.declared.program.InitByte.{InitByte}
use Rattle.c_syntax.specs.declared.program.Initial.{Initial}
use Rattle.c_syntax.specs.Types.{ObjectTree}
use Rattle.c_values.specs.Places.{ObjectMemory, place_of}
use Rattle.c_objects.specs.Opening.{no_objects, opened}
use Rattle.c_objects.specs.Statics.{open_statics, opened_statics, with_initial, initial_at, with_initials}
use Rattle.c_objects.proofs.Keeping.{none_lives}
use Rattle.c_objects.specs.Lifetimes.{OnlyStaticsStart}
use Rattle.c_objects.proofs.Listed.{by_sum}
use Rattle.c_objects.proofs.Places.{open_only, some_not_none}

-- an object among these, from a number on, that is static
abbrev IsStaticFrom : List ObjectTree → ℕ → ℕ → Type 0
IsStaticFrom os x y = (j : ℕ) × (y ≡ x + j) × IsSomeAnd (slice_get os j) (λ o. IsTrue o.is_static)

later : (o : ObjectTree) (os : List ObjectTree) (x y : ℕ) → IsStaticFrom os (suc x) y → IsStaticFrom (o ∷ os) x y
later o os x y (j, e, h) = (suc j, omega (arith, e), h)

open_if : (objects : List ObjectTree) (o : ObjectTree) (os : List ObjectTree) (x y : ℕ) (m : ObjectMemory) (z : Bool) → o.is_static ≡ z
    → IsSome (place_of (if z then opened objects m x else m) y) → IsSome (place_of m y) ⊎ IsStaticFrom (o ∷ os) x y
open_if objects o os x y m true e h = by_sum (open_only objects m x y (cases_eq y x) h) (λ a. inl a) (λ f. inr (0, omega (arith, f), e))
open_if objects o os x y m false e h = inl h

statics_only : (objects os : List ObjectTree) (x y : ℕ) (m : ObjectMemory) → IsSome (place_of (open_statics objects os x m) y) → IsSome (place_of m y) ⊎ IsStaticFrom os x y
statics_only objects [] x y m h = inl h
statics_only objects (o ∷ os) x y m h =
    by_sum (statics_only objects os (suc x) y (if o.is_static then opened objects m x else m) h)
    (λ a. open_if objects o os x y m o.is_static refl a) (λ f. inr (later o os x y f))

initial_places : (m : ObjectMemory) (b : Option ℕ) (bytes : List InitByte) → (initial_at m b bytes).places ≡ m.places
initial_places m None bytes = refl
initial_places m (Some b) bytes = refl

initials_places : (m : ObjectMemory) (is : List Initial) → (with_initials m is).places ≡ m.places
initials_places m [] = refl
initials_places m (i ∷ is) = initials_places (with_initial m i) is ∙ initial_places m (place_of m i.object) i.bytes

static_at : (objects : List ObjectTree) (y : ℕ) → IsStaticFrom objects 0 y → IsSomeAnd (slice_get objects y) (λ o. IsTrue o.is_static)
static_at objects y (j, e, h) = let same : y ≡ j = omega (arith, e) in subst (λ z. IsSomeAnd (slice_get objects z) (λ o. IsTrue o.is_static)) (sym same) h

pub start_only : OnlyStaticsStart
start_only objects initials y h =
    let before = subst (λ (ps : List (Option ℕ)). IsSome (slice_index_or ps y None)) (initials_places (opened_statics objects) initials) h in
    by_sum (statics_only objects objects 0 y (no_objects (length objects)) before)
    (λ a. absurd (some_not_none (place_of (no_objects (length objects)) y) (none_lives (length objects) y) a)) (λ f. static_at objects y f)
