-- Rounding the bounds on one variable and adding their halves keeps a closed matrix closed.
use Rattle.std.specs.Prelude.{ℕ, ℤ, pos, ◌≡◌, ◌+ℤ◌, ◌≤ℤ◌, ◌<ℤ◌}
use Rattle.std.proofs.Common.{arith, sym, subst}
use Rattle.std.proofs.lemmas.Int.{ints, by_lt_z}
use Rattle.bound_matrix.specs.Rel.{Through, Mirrored}
use Rattle.bound_matrix.proofs.Ways.{Up, Half, Halved, whole, halves, NoClash}

module _ (bar : ℕ → ℕ) (twice : (i : ℕ) → bar (bar i) ≡ i) (L : ℕ → ℕ → ℤ → Type 0) (u : Up L) (m : Mirrored bar L) (t : (p : ℕ) → Through L p) where
  -- a bound from i to k moves a half from k to i
  pub half-before : (i k : ℕ) (x h : ℤ) → L i k x → Half bar L k h → Half bar L i (h +ℤ x)
  half-before i k x h l f = u.up i (bar i) (x +ℤ (((h +ℤ h) +ℤ pos 1) +ℤ x)) _ ((t k).joined i (bar i) x _ l ((t (bar k)).joined k (bar i) _ x f (m.mirror i k x l))) (omega (arith, ints))

  pub half-after : (k j : ℕ) (y g : ℤ) → L k j y → Half bar L (bar k) g → Half bar L (bar j) (g +ℤ y)
  half-after k j y g l f = half-before (bar j) (bar k) y g (m.mirror k j y l) f

  module _ (apart : NoClash bar L) where
    pub halved-joined : (k i j : ℕ) (x y : ℤ) → Halved bar L i k x → Halved bar L k j y → Halved bar L i j (x +ℤ y)
    halved-joined k i j x y (whole l) (whole o) = whole ((t k).joined i j x y l o)
    halved-joined k i j x y (whole l) (halves h g p q e) = halves (h +ℤ x) g (half-before i k x h l p) q (omega (arith, ints))
    halved-joined k i j x y (halves h g p q e) (whole l) = halves h (g +ℤ y) p (half-after k j y g l q) (omega (arith, ints))
    halved-joined k i j x y (halves h g p q e) (halves h2 g2 p2 q2 e2) = let z = apart.apart k h2 g p2 q in halves h g2 p q2 (omega (arith, ints))

  -- a half of the new matrix is a half of the old one
  pub half-same : (i : ℕ) (h : ℤ) → Half bar (Halved bar L) i h → Half bar L i h
  half-same i h (whole l) = l
  half-same i h (halves p q f g e) = lesser p q (rw (twice i) at g) f e
    where
      lesser : (p q : ℤ) → Half bar L i q → Half bar L i p → (p +ℤ q) ≤ℤ ((h +ℤ h) +ℤ pos 1) → Half bar L i h
      lesser p q g f e = by_lt_z q p (λ (lt : q <ℤ p). u.up i (bar i) _ _ g (omega (arith, ints))) (λ (le : p ≤ℤ q). u.up i (bar i) _ _ f (omega (arith, ints)))

  pub halved-mirror : (i j : ℕ) (x : ℤ) → Halved bar L i j x → Halved bar L (bar j) (bar i) x
  halved-mirror i j x (whole l) = whole (m.mirror i j x l)
  halved-mirror i j x (halves h g p q e) = halves g h q (subst (λ (k : ℕ). Half bar L k h) (sym (twice i)) p) (omega (arith, ints))

  -- halves of the new matrix add up
  pub halved-strong : (i j : ℕ) (h g : ℤ) → Half bar (Halved bar L) i h → Half bar (Halved bar L) (bar j) g → Halved bar L i j (h +ℤ g)
  halved-strong i j h g p q = halves h g (half-same i h p) (half-same (bar j) g q) (omega (arith, ints))

  pub halved-even : (i : ℕ) (h : ℤ) → Half bar (Halved bar L) i h → Halved bar L i (bar i) (h +ℤ h)
  halved-even i h p = halves h h (half-same i h p) (subst (λ (k : ℕ). Half bar L k h) (sym (twice i)) (half-same i h p)) (omega (arith, ints))
