-- Lengths of packs, and where variables stand in them.
use Rattle.std.proofs.Common.{ℕ, zero, suc, List, [], ◌∷◌, Option, None, Some, length, ◌≡◌, ◌<◌, ◌≤◌, ◌+◌, refl, sym, subst, ◌∙◌, arith, true, false, Bool, cond}
use Rattle.std.specs.Prelude.{nat_eq, not, take, filter, is_some}
use Rattle.std.proofs.lemmas.Bool.Decides.{nat_tests}
use Rattle.std.proofs.lemmas.List.{length-take}
use Rattle.bound_matrix.proofs.Places.{nat-either}
use Rattle.octagons_pack.specs.Packs.{later, place_in, without, brought, common}
use Rattle.octagons_changes.specs.States.{StandsBefore}

same-test : (a b : ℕ) → a ≡ b → nat_eq a b ≡ true
same-test a b e = grind (arith, nat_tests)

other-test : (a b : ℕ) → (a ≡ b → ⊥) → nat_eq a b ≡ false
other-test a b e = grind (arith, nat_tests)

-- ---- lengths

filter-length : (p : ℕ → Bool) (xs : List ℕ) → length (filter p xs) ≤ length xs
filter-length p [] = omega arith
filter-length p (x ∷ xs) = by (filter-length p xs) (p x) refl
  where
    by : length (filter p xs) ≤ length xs → (b : Bool) → p x ≡ b → length (filter p (x ∷ xs)) ≤ length (x ∷ xs)
    by i true e = rw e (omega arith)
    by i false e = rw e (omega arith)

pub without-length : (x : ℕ) (pack : List ℕ) → length (without x pack) ≤ length pack
without-length x pack = filter-length (λ z. not (nat_eq z x)) pack

pub common-length : (pack other : List ℕ) → length (common pack other) ≤ length pack
common-length pack other = filter-length (λ z. is_some (place_in z other)) pack

pub brought-length : (x : ℕ) (pack : List ℕ) → length (brought x pack) ≤ 24
brought-length x pack = let e = length-take 23 (without x pack) in grind arith

-- ---- places

pub place-first : (x : ℕ) (zs : List ℕ) → place_in x (x ∷ zs) ≡ Some 0
place-first x zs = let t = same-test x x refl in rw t refl

place-later : (x z : ℕ) (zs : List ℕ) (k : ℕ) → (z ≡ x → ⊥) → place_in x zs ≡ Some k → place_in x (z ∷ zs) ≡ Some (k + 1)
place-later x z zs k d e = let t = other-test z x d in rw (t, e) refl

place-take : (x : ℕ) (zs : List ℕ) (n k : ℕ) → place_in x zs ≡ Some k → k < n → place_in x (take n zs) ≡ Some k
place-take x [] n k e h = cc
place-take x (z ∷ zs) zero k e h = absurd (omega arith)
place-take x (z ∷ zs) (suc n) k e h = nat-either z x
    (λ s. let t = same-test z x s in
    let f : Some 0 ≡ Some k = subst (λ (b : Bool). cond b (Some 0) (later (place_in x zs)) ≡ Some k) t e in
    rw t f)
    (λ d. let t = other-test z x d in
    rest t (place_in x zs) (λ j p l. place-take x zs n j p l) refl (subst (λ (b : Bool). cond b (Some 0) (later (place_in x zs)) ≡ Some k) t e))
  where
    rest : nat_eq z x ≡ false → (o : Option ℕ) → ((j : ℕ) → place_in x zs ≡ Some j → j < n → place_in x (take n zs) ≡ Some j) → place_in x zs ≡ o → later o ≡ Some k → place_in x (take (suc n) (z ∷ zs)) ≡ Some k
    rest t None inner p f = cc
    rest t (Some j) inner p f = let g : j + 1 ≡ k = cc in let i : place_in x (take n zs) ≡ Some j = inner j p (omega arith) in rw (t, i) f

-- another variable moves no further from the first place where one is left out
place-without : (y x : ℕ) (zs : List ℕ) (k : ℕ) → (y ≡ x → ⊥) → place_in y zs ≡ Some k → (j : ℕ) × (place_in y (without x zs) ≡ Some j) × (j ≤ k)
place-without y x [] k d e = cc
place-without y x (z ∷ zs) k d e = nat-either z y
    (λ s. let t = same-test z y s in let u = other-test z x (λ q. d (sym s ∙ q)) in
    let f : Some 0 ≡ Some k = subst (λ (b : Bool). cond b (Some 0) (later (place_in y zs)) ≡ Some k) t e in
    (0, rw (u, t) refl, omega arith))
    (λ n. let t = other-test z y n in
    rest n t (place_in y zs) (λ l p. place-without y x zs l d p) refl (subst (λ (b : Bool). cond b (Some 0) (later (place_in y zs)) ≡ Some k) t e))
  where
    rest : (z ≡ y → ⊥) → nat_eq z y ≡ false → (o : Option ℕ) → ((l : ℕ) → place_in y zs ≡ Some l → (j : ℕ) × (place_in y (without x zs) ≡ Some j) × (j ≤ l)) → place_in y zs ≡ o → later o ≡ Some k → (j : ℕ) × (place_in y (without x (z ∷ zs)) ≡ Some j) × (j ≤ k)
    rest n t None inner p f = cc
    rest n t (Some l) inner p f =
        let g : l + 1 ≡ k = cc in
        let i = inner l p in
        let q : place_in y (without x zs) ≡ Some i.0 = i.1 in
        let m : i.0 ≤ l = i.2 in
        nat-either z x
        (λ s. let u = same-test z x s in (i.0, rw u q, omega arith))
        (λ o. let u = other-test z x o in (i.0 + 1, rw (u, t, q) refl, omega arith))

-- a variable that stands among the first two still stands among the first three where another one comes first
pub brought-stays : (x y : ℕ) (pack : List ℕ) → StandsBefore 2 y pack → StandsBefore 3 y (brought x pack)
brought-stays x y pack s = nat-either y x
    (λ e. (0, subst (λ (z : ℕ). place_in z (brought x pack) ≡ Some 0) (sym e) (place-first x (take 23 (without x pack))), omega arith))
    (λ d. let i = place-without y x pack s.0 d s.1 in
    let l : s.0 < 2 = s.2 in
    let m : i.0 ≤ s.0 = i.2 in
    (i.0 + 1, place-later y x (take 23 (without x pack)) i.0 (λ e. d (sym e)) (place-take y (without x pack) 23 i.0 i.1 (omega arith)), omega arith))

pub brought-first : (n x : ℕ) (pack : List ℕ) → 0 < n → StandsBefore n x (brought x pack)
brought-first n x pack l = (0, place-first x (take 23 (without x pack)), l)
