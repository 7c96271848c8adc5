-- Clones of plain values are the values.
use Rattle.std.proofs.Common.{◌≡◌, ℕ, Bool, List, [], ◌∷◌, refl}
use Rattle.std.specs.List.{AllZip}
use Rattle.cell_table.specs.declared.places.Place.{Place}

same-zip : {A : Type 0} (R : A → A → Type 0) → ((x y : A) → R x y → y ≡ x) → (xs ys : List A) → AllZip R xs ys → ys ≡ xs
same-zip R f [] [] h = refl
same-zip R f [] (y ∷ ys) h = absurd h
same-zip R f (x ∷ xs) [] h = absurd h
same-zip R f (x ∷ xs) (y ∷ ys) h = λ i. f x y h.0 i ∷ same-zip R f xs ys h.1 i

-- the entries of a cloned map of cells
pub same-cells : (xs ys : List ((ℕ × ℕ × ℕ) × Bool))
    → AllZip (λ p q. ((q.0.0 ≡ p.0.0) × (q.0.1 ≡ p.0.1) × (q.0.2 ≡ p.0.2)) × (q.1 ≡ p.1)) xs ys → ys ≡ xs
same-cells xs ys h =
    same-zip (λ (p q : (ℕ × ℕ × ℕ) × Bool). ((q.0.0 ≡ p.0.0) × (q.0.1 ≡ p.0.1) × (q.0.2 ≡ p.0.2)) × (q.1 ≡ p.1))
    (λ p q k i. ((k.0.0 i, k.0.1 i, k.0.2 i), k.1 i)) xs ys h

-- the entries of a cloned map of places
pub same-places : (xs ys : List ((ℕ × ℕ) × Place))
    → AllZip (λ p q. ((q.0.0 ≡ p.0.0) × (q.0.1 ≡ p.0.1)) × (q.1 ≡ p.1)) xs ys → ys ≡ xs
same-places xs ys h =
    same-zip (λ (p q : (ℕ × ℕ) × Place). ((q.0.0 ≡ p.0.0) × (q.0.1 ≡ p.0.1)) × (q.1 ≡ p.1))
    (λ p q k i. ((k.0.0 i, k.0.1 i), k.1 i)) xs ys h
