-- Items of lists that stand in the same places.
use Rattle.std.proofs.Common.{ℕ, zero, suc, ◌≡◌, ◌⊎◌, List, [], ◌∷◌, length, map, replicate, slice_get, Some, refl, ap, arith, inl, inr, get_or}
use Rattle.std.specs.Prelude.{Err, IfOk, Ok, OnOk, Result}

pub there-at : {X Y : Type 0} (xs : List X) (ys : List Y) (i : ℕ) (x : X) → length xs ≡ length ys → slice_get xs i ≡ Some x → (y : Y) × (slice_get ys i ≡ Some y)
there-at [] ys i x l h = cc
there-at (x' ∷ xs) [] i x l h = absurd (omega (arith, l))
there-at (x' ∷ xs) (y ∷ ys) zero x l h = (y, refl)
there-at (x' ∷ xs) (y ∷ ys) (suc i) x l h = there-at xs ys i x (omega (arith, l)) h

-- an item that was made of another
pub map-get : {X Y : Type 0} (f : X → Y) (xs : List X) (i : ℕ) (y : Y) → slice_get (map f xs) i ≡ Some y → (x : X) × (slice_get xs i ≡ Some x) × (y ≡ f x)
map-get f [] i y h = cc
map-get f (x ∷ xs) zero y h = (x, refl, cc)
map-get f (x ∷ xs) (suc i) y h = map-get f xs i y h

pub map-length : {X Y : Type 0} (f : X → Y) (xs : List X) → length xs ≡ length (map f xs)
map-length f [] = refl
map-length f (x ∷ xs) = ap suc (map-length f xs)

-- what stands at a place, or else nothing
pub or-cases : {X : Type 0} (xs : List X) (i : ℕ) (d : X) → (slice_get xs i ≡ Some (get_or xs i d)) ⊎ (get_or xs i d ≡ d)
or-cases [] i d = inr refl
or-cases (x ∷ xs) zero d = inl refl
or-cases (x ∷ xs) (suc i) d = or-cases xs i d

pub replicated : {X : Type 0} (n i : ℕ) (x y : X) → slice_get (replicate n x) i ≡ Some y → y ≡ x
replicated zero i x y h = cc
replicated (suc n) zero x y h = cc
replicated (suc n) (suc i) x y h = replicated n i x y h

-- ---- what is claimed of nothing

pub on-ok : {A E P : Type 0} (r : Result A E) → P → OnOk r P
on-ok (Ok x) h = h
on-ok (Err e) h = tt

pub if-ok : {A E : Type 0} (r : Result A E) (P : A → Type 0) → ((x : A) → P x) → IfOk r P
if-ok (Ok x) P h = h x
if-ok (Err e) P h = tt
