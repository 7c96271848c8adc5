-- Closing as a whole.
use Rattle.std.specs.Prelude.{ℕ, ℤ, pos, neg_ℤ, ◌≡◌, ◌<◌, ◌≤◌, ◌%◌, ◌+ℤ◌, ◌≤ℤ◌, List}
use Rattle.std.proofs.Common.{arith, sym, subst, ◌∙◌}
use Rattle.std.proofs.lemmas.Int.{ints}
use Rattle.ext_int.specs.declared.Ext.{Ext}
use Rattle.ext_int.specs.declared.Ext.TheVariants.{Low, Fin, High}
use Rattle.bound_matrix.specs.Rel.{Through, NotBelowZero}
use Rattle.bound_matrix.specs.Entry.{Near, Relaxed, Bounds, kept}
use Rattle.bound_matrix.specs.Cells.{cell, Lowered, IsClosed, IsLeast, IsMirrored, IsTightly, IsSigned, half_at, HalvesAbove, IsHalves, RowHalved, IsHalf, HalvesOf, IsReady}
use Rattle.bound_matrix.proofs.Tables.{cell-out}
use Rattle.bound_matrix.proofs.HalfRows.{bar-inside}
use Rattle.bound_matrix.proofs.Tight.{closed-mirror, tight}
use Rattle.ext_int.specs.Ext.{Above}
use Rattle.bound_matrix.specs.Bound.{AllInRange, InRange, bar}
use Rattle.bound_matrix.proofs.Places.{bar-twice, nat-less_or}
use Rattle.bound_matrix.specs.Points.{IsUpTo, Meets}

pub halves-are : (n : ℕ) (m : ℕ → ℕ → Ext) (h : List Ext) → n % 2 ≡ 0 → HalvesOf n m h → IsHalves n h
halves-are n m h e s = record { halves_size = s.of_size; halves_range = s.of_range; even_size = e }

half-above : (e f : Ext) (v : ℤ) → InRange f → IsHalf e f → Above e (neg_ℤ v +ℤ neg_ℤ v) → Above f (neg_ℤ v)
half-above e Low v r s h = absurd r
half-above e (Fin x) v r s h = by e (s.half_into x (omega (arith, ints))) h
  where
    by : (e : Ext) → IsUpTo e ((x +ℤ x) +ℤ pos 1) → Above e (neg_ℤ v +ℤ neg_ℤ v) → neg_ℤ v ≤ℤ x
    by Low a b = absurd a
    by (Fin y) a b = omega (arith, ints)
    by High a b = absurd a
half-above e High v r s h = tt

pub halves-above : (n : ℕ) (m : ℕ → ℕ → Ext) (h : List Ext) (v : ℕ → ℤ) → n ≤ 48 → HalvesOf n m h → IsSigned v → Meets v m → HalvesAbove n v h
halves-above n m h v few s k p = record {
  above = λ i l. half-above (m i (bar i)) (half_at h i) (v i) (s.of_range i (omega arith)) (s.of_half i l) (subst (λ (x : ℤ). Above (m i (bar i)) (x +ℤ neg_ℤ (v i))) (k.signed i) (p.meets i (bar i)));
  opposite = k.signed;
}

module _ (n : ℕ) (t s : List Ext) (h : List Ext) (few : n ≤ 48) (even : n % 2 ≡ 0) (z : HalvesOf n (cell n t) h) (c : IsClosed n (cell n t)) (halved : (p : ℕ) → p < n → RowHalved n p h (cell n t) (cell n s)) where
  all-through : (p : ℕ) → Through (Bounds (cell n t)) p
  all-through p = nat-less_or p n (λ l. c.through p l) (λ l. record { joined = λ i j x y a b. absurd (subst (λ (e : Ext). IsUpTo e x) (cell-out n t i p (λ _ g. absurd (omega arith))) a) })

  all-half : (i : ℕ) → IsHalf (cell n t i (bar i)) (half_at h i)
  all-half i = nat-less_or i n (λ l. z.of_half i l) (λ l. record { half_into = λ x a. absurd (z.of_out i l x a); half_from = λ x a. absurd (subst (λ (e : Ext). IsUpTo e ((x +ℤ x) +ℤ pos 1)) (cell-out n t i (bar i) (λ g _. absurd (omega arith))) a) })

  bar-out : (j : ℕ) → n ≤ j → n ≤ bar j
  bar-out j l = nat-less_or (bar j) n (λ g. absurd (let k = bar-inside n (bar j) even g in let e = bar-twice j in omega arith)) (λ g. g)

  all-by : (i j : ℕ) → Relaxed (half_at h i) (half_at h (bar j)) (cell n t i j) (cell n s i j)
  all-by i j = nat-less_or i n
      (λ l. nat-less_or j n (λ g. (halved i l).row_halved j g)
      (λ g. kept (cell-out n s i j (λ _ r. absurd (omega arith)) ∙ sym (cell-out n t i j (λ _ r. absurd (omega arith)))) (λ y w a b. absurd (z.of_out (bar j) (bar-out j g) w b))))
      (λ l. kept (cell-out n s i j (λ r _. absurd (omega arith)) ∙ sym (cell-out n t i j (λ r _. absurd (omega arith)))) (λ y w a b. absurd (z.of_out i l y a)))

pub tight-all : (n : ℕ) (t s : List Ext) (h : List Ext) → n ≤ 48 → n % 2 ≡ 0 → HalvesOf n (cell n t) h → IsReady n (cell n t) → ((p : ℕ) → p < n → RowHalved n p h (cell n t) (cell n s)) → AllInRange (cell n s) → Lowered (cell n t) (cell n s) → NotBelowZero (Bounds (cell n s)) → IsTightly n (cell n s)
tight-all n t s h few even z r halved range lower clash =
    tight n (cell n t) (cell n s) r.mirror (all-through n t s h few even z r.closed halved) r.up r.closed.zero range lower (half_at h) (all-half n t s h few even z r.closed halved) (all-by n t s h few even z r.closed halved) clash

-- what was closed from mirrored bounds is ready for the halves
pub ready : (n : ℕ) (m w : ℕ → ℕ → Ext) → n % 2 ≡ 0 → IsMirrored n m → Lowered m w → IsClosed n w → IsLeast n m w → ((i j : ℕ) → Near (w i j)) → NotBelowZero (Bounds w) → IsReady n w
ready n m w even f l c least near up = record { closed = c; near = near; up = up; mirror = closed-mirror n (λ i g. bar-inside n i even g) m w f l c least }

pub tight-same : (n : ℕ) (w u : ℕ → ℕ → Ext) → ((p q : ℕ) → u p q ≡ w p q) → IsTightly n w → IsTightly n u
tight-same n w u h t = record {
  coherent = λ i j. h (bar j) (bar i) ∙ (t.coherent i j ∙ sym (h i j));
  zero = λ i l. h i i ∙ t.zero i l;
  triangle = λ i j k x y a b. up i j _ (t.triangle i j k x y (down i k x a) (down k j y b));
  even = λ i x a. up i (bar i) _ (t.even i x (down i (bar i) _ a));
  strong = λ i j x y a b. up i j _ (t.strong i j x y (down i (bar i) _ a) (down (bar j) j _ b));
}
  where
    up : (p q : ℕ) (x : ℤ) → IsUpTo (w p q) x → IsUpTo (u p q) x
    up p q x a = subst (λ (e : Ext). IsUpTo e x) (sym (h p q)) a

    down : (p q : ℕ) (x : ℤ) → IsUpTo (u p q) x → IsUpTo (w p q) x
    down p q x a = subst (λ (e : Ext). IsUpTo e x) (h p q) a
