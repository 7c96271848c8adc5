-- First places of variables.
use Rattle.std.proofs.Common.{ℕ, zero, suc, List, [], ◌∷◌, Option, None, Some, length, ◌≡◌, ◌<◌, ◌≤◌, ◌+◌, refl, ap, sym, subst, ◌∙◌, arith, true, false, Bool, cond}
use Rattle.std.specs.Prelude.{nat_eq, map, slice_index_or}
use Rattle.std.proofs.lemmas.Bool.Decides.{nat_tests}
use Rattle.bound_matrix.proofs.Places.{nat-either}
use Rattle.octagons_sources.specs.Seen.{place_at}
use Rattle.octagons_pack.specs.Packs.{at, later, place_in, places_in}

same-test : (a b : ℕ) → a ≡ b → nat_eq a b ≡ true
same-test a b e = grind (arith, nat_tests)

other-test : (a b : ℕ) → (a ≡ b → ⊥) → nat_eq a b ≡ false
other-test a b e = grind (arith, nat_tests)

pub first-place : (x : ℕ) (zs : List ℕ) (k : ℕ) → ((p : ℕ) → p < k → at zs p ≡ x → ⊥) → k < length zs → at zs k ≡ x → place_in x zs ≡ Some k
first-place x [] k f h e = absurd (omega arith)
first-place x (z ∷ zs) zero f h e = let t = same-test z x e in rw t refl
first-place x (z ∷ zs) (suc k) f h e =
    let t = other-test z x (f 0 (omega arith)) in
    let i : place_in x zs ≡ Some k = first-place x zs k (λ p l. f (suc p) (omega arith)) (omega arith) e in
    rw (t, i) (ap Some (next k))
  where
    next : (k : ℕ) → k + 1 ≡ suc k
    next k = omega arith

pub no-place : (x : ℕ) (zs : List ℕ) (k : ℕ) → length zs ≤ k → ((p : ℕ) → p < k → at zs p ≡ x → ⊥) → place_in x zs ≡ None
no-place x [] k h f = refl
no-place x (z ∷ zs) zero h f = absurd (omega arith)
no-place x (z ∷ zs) (suc k) h f =
    let t = other-test z x (f 0 (omega arith)) in
    let i : place_in x zs ≡ None = no-place x zs k (omega arith) (λ p l. f (suc p) (omega arith)) in
    rw (t, i) refl

pub places-at : (own other : List ℕ) (k : ℕ) → k < length own → place_at (places_in own other) k ≡ place_in (at own k) other
places-at [] other k h = absurd (omega arith)
places-at (z ∷ zs) other zero h = refl
places-at (z ∷ zs) other (suc k) h = places-at zs other k (omega arith)

pub places-past : (own other : List ℕ) (k : ℕ) → length own ≤ k → place_at (places_in own other) k ≡ None
places-past [] other k h = refl
places-past (z ∷ zs) other zero h = absurd (omega arith)
places-past (z ∷ zs) other (suc k) h = places-past zs other k (omega arith)

-- what stands at a place of a pack that is found
pub found-place : (x : ℕ) (zs : List ℕ) (k : ℕ) → place_in x zs ≡ Some k → (k < length zs) × (at zs k ≡ x)
found-place x [] k e = cc
found-place x (z ∷ zs) k e = nat-either z x
    (λ s. let t = same-test z x s in
    let f : Some 0 ≡ Some k = subst (λ (b : Bool). cond b (Some 0) (later (place_in x zs)) ≡ Some k) t e in
    let g : 0 ≡ k = cc in subst (λ (k : ℕ). (k < length (z ∷ zs)) × (at (z ∷ zs) k ≡ x)) g (omega arith, s))
    (λ d. let t = other-test z x d in
    after (place_in x zs) (λ j p. found-place x zs j p) refl (subst (λ (b : Bool). cond b (Some 0) (later (place_in x zs)) ≡ Some k) t e))
  where
    after : (o : Option ℕ) → ((j : ℕ) → place_in x zs ≡ Some j → (j < length zs) × (at zs j ≡ x)) → place_in x zs ≡ o → later o ≡ Some k → (k < length (z ∷ zs)) × (at (z ∷ zs) k ≡ x)
    after None rest p f = cc
    after (Some j) rest p f =
        let r = rest j p in
        let l : j < length zs = r.0 in
        let g : suc j ≡ k = step j f in
        subst (λ (k : ℕ). (k < length (z ∷ zs)) × (at (z ∷ zs) k ≡ x)) g (omega arith, r.1)
      where
        step : (j : ℕ) → Some (j + 1) ≡ Some k → suc j ≡ k
        step j f = let h : j + 1 ≡ k = cc in omega arith
