-- Items of lists.
use Rattle.std.proofs.Common.{ℕ, zero, suc, ◌≡◌, ◌⊎◌, ◌+◌, ◌<◌, ◌≤◌, ◌++◌, List, [], ◌∷◌, length, take, drop, replicate, slice_get, Some, refl, ap, sym, ◌∙◌, arith, inl, inr, get_or}
use Rattle.mem_cell_bytes.specs.Stands.{Has}

pub has-index : {X : Type 0} (xs : List X) (i : ℕ) (d x : X) → i < length xs → x ≡ get_or xs i d → Has xs x
has-index [] i d x h e = absurd (omega arith)
has-index (y ∷ xs) zero d x h e = (0, ap Some (sym e))
has-index (y ∷ xs) (suc i) d x h e = let r = has-index xs i d x (omega (arith, h)) e in (suc r.0, r.1)

pub get-index : {X : Type 0} (xs : List X) (i : ℕ) (d x : X) → i < length xs → x ≡ get_or xs i d → slice_get xs i ≡ Some x
get-index [] i d x h e = absurd (omega arith)
get-index (y ∷ xs) zero d x h e = ap Some (sym e)
get-index (y ∷ xs) (suc i) d x h e = get-index xs i d x (omega (arith, h)) e

-- one item more
pub take-push : {X : Type 0} (xs : List X) (i : ℕ) (x : X) → slice_get xs i ≡ Some x → take (i + 1) xs ≡ take i xs ++ x ∷ []
take-push [] i x h = cc
take-push (y ∷ xs) zero x h = let e : y ≡ x = cc in ap (λ z. z ∷ []) e
take-push (y ∷ xs) (suc i) x h = let e : suc i + 1 ≡ suc (i + 1) = omega arith in ap (λ n. take n (y ∷ xs)) e ∙ ap (λ zs. y ∷ zs) (take-push xs i x h)

-- all items
pub take-whole : {X : Type 0} (xs : List X) (n : ℕ) → length xs ≤ n → take n xs ≡ xs
take-whole [] zero h = refl
take-whole [] (suc n) h = refl
take-whole (x ∷ xs) zero h = absurd (omega arith)
take-whole (x ∷ xs) (suc n) h = ap (λ zs. x ∷ zs) (take-whole xs n (omega (arith, h)))

pub get-push : {X : Type 0} (xs : List X) (y x : X) (o : ℕ) → slice_get (xs ++ y ∷ []) o ≡ Some x → (slice_get xs o ≡ Some x) ⊎ ((o ≡ length xs) × (x ≡ y))
get-push [] y x zero h = inr (refl, cc)
get-push [] y x (suc o) h = cc
get-push (z ∷ xs) y x zero h = inl h
get-push (z ∷ xs) y x (suc o) h = elim (get-push xs y x o h) [ inl old ↦ inl old | inr new ↦ inr (ap suc new.0, new.1) ]

pub get-old : {X : Type 0} (xs : List X) (y x : X) (o : ℕ) → slice_get xs o ≡ Some x → slice_get (xs ++ y ∷ []) o ≡ Some x
get-old [] y x o h = cc
get-old (z ∷ xs) y x zero h = h
get-old (z ∷ xs) y x (suc o) h = get-old xs y x o h

pub get-here : {X : Type 0} (xs : List X) (y : X) → slice_get (xs ++ y ∷ []) (length xs) ≡ Some y
get-here [] y = refl
get-here (z ∷ xs) y = get-here xs y

pub get-below : {X : Type 0} (xs : List X) (o : ℕ) (x : X) → slice_get xs o ≡ Some x → o < length xs
get-below [] o x h = cc
get-below (y ∷ xs) zero x h = omega arith
get-below (y ∷ xs) (suc o) x h = let r = get-below xs o x h in omega (arith, r)

pub get-one : {X : Type 0} (xs : List X) (o : ℕ) (x y : X) → slice_get xs o ≡ Some x → slice_get xs o ≡ Some y → x ≡ y
get-one xs o x y h g = cc

pub has-old : {X : Type 0} (xs : List X) (y x : X) → Has xs x → Has (xs ++ y ∷ []) x
has-old xs y x (n, h) = (n, get-old xs y x n h)

pub has-new : {X : Type 0} (xs : List X) (y : X) → Has (xs ++ y ∷ []) y
has-new xs y = (length xs, get-here xs y)

-- an item of a list into which one was put is that one, or was there
pub has-insert : {X : Type 0} (xs : List X) (at : ℕ) (y x : X) → Has (take at xs ++ y ∷ drop at xs) x → Has xs x ⊎ (x ≡ y)
has-insert xs zero y x (zero, h) = inr cc
has-insert xs zero y x (suc n, h) = inl (n, h)
has-insert [] (suc at) y x (zero, h) = inr cc
has-insert [] (suc at) y x (suc n, h) = cc
has-insert (z ∷ xs) (suc at) y x (zero, h) = inl (0, h)
has-insert (z ∷ xs) (suc at) y x (suc n, h) = elim (has-insert xs at y x (n, h)) [ inl old ↦ inl (suc old.0, old.1) | inr new ↦ inr new ]

pub has-drop : {X : Type 0} (xs : List X) (k : ℕ) (x : X) → Has (drop k xs) x → Has xs x
has-drop xs zero x h = h
has-drop [] (suc k) x h = h
has-drop (y ∷ xs) (suc k) x h = let r = has-drop xs k x h in (suc r.0, r.1)

pub replicate-push : {X : Type 0} (n : ℕ) (x : X) → replicate (n + 1) x ≡ replicate n x ++ x ∷ []
replicate-push zero x = refl
replicate-push (suc n) x = let e : suc n + 1 ≡ suc (n + 1) = omega arith in ap (λ k. replicate k x) e ∙ ap (λ xs. x ∷ xs) (replicate-push n x)

pub get-or : {X : Type 0} (xs : List X) (i : ℕ) (d : X) → i < length xs → slice_get xs i ≡ Some (get_or xs i d)
get-or xs i d h = get-index xs i d (get_or xs i d) h refl

pub has-or : {X : Type 0} (xs : List X) (i : ℕ) (d : X) → i < length xs → Has xs (get_or xs i d)
has-or xs i d h = (i, get-or xs i d h)

pub has-take : {X : Type 0} (xs : List X) (k : ℕ) (x : X) → Has (take k xs) x → Has xs x
has-take xs zero x (n, h) = cc
has-take [] (suc k) x (n, h) = cc
has-take (y ∷ xs) (suc k) x (zero, h) = (0, h)
has-take (y ∷ xs) (suc k) x (suc n, h) = let r = has-take xs k x (n, h) in (suc r.0, r.1)
