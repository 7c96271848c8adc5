-- A closed coherent matrix with its halves added is tightly closed.
use Rattle.std.specs.Prelude.{ℕ, ℤ, pos, ◌≡◌, ◌<◌, ◌+ℤ◌, ◌≤ℤ◌}
use Rattle.std.proofs.Common.{arith, sym, subst, refl}
use Rattle.std.proofs.lemmas.Int.{ints}
use Rattle.ext_int.specs.declared.Ext.{Ext}
use Rattle.ext_int.specs.declared.Ext.TheVariants.{Low, Fin, High}
use Rattle.bound_matrix.specs.Rel.{Through, Within, NotBelowZero, Mirrored}
use Rattle.bound_matrix.proofs.Ways.{Half, Halved, whole, halves, NoClash}
use Rattle.bound_matrix.specs.Entry.{Relaxed, Bounds, kept, better}
use Rattle.bound_matrix.specs.Cells.{Lowered, IsClosed, IsLeast, IsHalf, IsMirrored, IsTightly}
use Rattle.bound_matrix.proofs.Entries.{at-most-up}
use Rattle.bound_matrix.proofs.Paths.{Bounds-up}
use Rattle.bound_matrix.proofs.Halving.{halved-joined, halved-mirror, halved-strong, halved-even}
use Rattle.bound_matrix.specs.Bound.{AllInRange, InRange, bar}
use Rattle.bound_matrix.specs.Points.{IsUpTo}
use Rattle.bound_matrix.proofs.Places.{bar-twice}

-- entries with the same bounds are the same
pub same-bounds : (e f : Ext) → InRange e → InRange f → ((x : ℤ) → IsUpTo e x → IsUpTo f x) → ((x : ℤ) → IsUpTo f x → IsUpTo e x) → e ≡ f
same-bounds Low f r s g h = absurd r
same-bounds (Fin x) Low r s g h = absurd s
same-bounds (Fin x) (Fin y) r s g h = let a : y ≤ℤ x = g x (omega (arith, ints)) in let b : x ≤ℤ y = h y (omega (arith, ints)) in let e : x ≡ y = omega (arith, ints) in rw e refl
same-bounds (Fin x) High r s g h = absurd (g x (omega (arith, ints)))
same-bounds High Low r s g h = absurd s
same-bounds High (Fin y) r s g h = absurd (h y (omega (arith, ints)))
same-bounds High High r s g h = refl

-- the least closed matrix below a coherent one is coherent
module _ (n : ℕ) (inside : (i : ℕ) → i < n → bar i < n) (m w : ℕ → ℕ → Ext) (f : IsMirrored n m) (l : Lowered m w) (c : IsClosed n w) (least : IsLeast n m w) where
  other : ℕ → ℕ → Ext
  other i j = w (bar j) (bar i)

  other-closed : IsClosed n other
  unfolding other
  other-closed = record {
    zero = λ i h. c.zero (bar i) (inside i h);
    through = λ a h. record { joined = λ i j x y p q. subst (λ (z : ℤ). IsUpTo (w (bar j) (bar i)) z) (omega (arith, ints)) ((c.through (bar a) (inside a h)).joined (bar j) (bar i) y x q p) };
  }

  other-below : Within (Bounds m) (Bounds other)
  unfolding other
  other-below = record { into = λ i j x h. l.lower (bar j) (bar i) x (subst (λ (e : Ext). IsUpTo e x) (sym (f.mirrored i j)) h) }

  pub closed-mirror : Mirrored bar (Bounds w)
  unfolding other
  closed-mirror = record { mirror = λ i j x h. (least.least other other-closed other-below).into i j x h }

module _ (n : ℕ) (m w : ℕ → ℕ → Ext) (mirror : Mirrored bar (Bounds m)) (through : (p : ℕ) → Through (Bounds m) p) (up : NotBelowZero (Bounds m)) (zero : (i : ℕ) → i < n → IsUpTo (m i i) (pos 0)) (range : AllInRange w) (lower : Lowered m w) (H : ℕ → Ext) (half : (i : ℕ) → IsHalf (m i (bar i)) (H i)) (by : (i j : ℕ) → Relaxed (H i) (H (bar j)) (m i j) (w i j)) (clash : NotBelowZero (Bounds w)) where
  relaxed-into : (i j : ℕ) (x : ℤ) → Relaxed (H i) (H (bar j)) (m i j) (w i j) → IsUpTo (w i j) x → Halved bar (Bounds m) i j x
  relaxed-into i j x (kept e g) h = whole (subst (λ (f : Ext). IsUpTo f x) e h)
  relaxed-into i j x (better y z p q e never) h = halves y z ((half i).half_into y (subst (λ (f : Ext). IsUpTo f y) (sym p) (omega (arith, ints)))) ((half (bar j)).half_into z (subst (λ (f : Ext). IsUpTo f z) (sym q) (omega (arith, ints)))) (subst (λ (f : Ext). IsUpTo f x) e h)

  relaxed-from : (i j : ℕ) (x : ℤ) → Relaxed (H i) (H (bar j)) (m i j) (w i j) → Halved bar (Bounds m) i j x → IsUpTo (w i j) x
  relaxed-from i j x r (whole h) = lower.lower i j x h
  relaxed-from i j x (kept e g) (halves y z p q h) = at-most-up (w i j) (y +ℤ z) x (subst (λ (f : Ext). IsUpTo f (y +ℤ z)) (sym e) (g y z ((half i).half_from y p) ((half (bar j)).half_from z q))) h
  relaxed-from i j x (better v u r s e never) (halves y z p q h) = subst (λ (f : Ext). IsUpTo f x) (sym e) (let a : v ≤ℤ y = subst (λ (f : Ext). IsUpTo f y) r ((half i).half_from y p) in let b : u ≤ℤ z = subst (λ (f : Ext). IsUpTo f z) s ((half (bar j)).half_from z q) in omega (arith, ints))

  into : (i j : ℕ) (x : ℤ) → IsUpTo (w i j) x → Halved bar (Bounds m) i j x
  into i j x h = relaxed-into i j x (by i j) h

  from : (i j : ℕ) (x : ℤ) → Halved bar (Bounds m) i j x → IsUpTo (w i j) x
  from i j x h = relaxed-from i j x (by i j) h

  -- the test of the diagonal finds each clash of halves
  no-clash : NoClash bar (Bounds m)
  no-clash = record { apart = λ i h g p q. clash.zero_up i (h +ℤ g) (from i i (h +ℤ g) (halves h g p q (omega (arith, ints)))) }

  whole-half : (i : ℕ) (h : ℤ) → IsUpTo (w i (bar i)) ((h +ℤ h) +ℤ pos 1) → Half bar (Halved bar (Bounds m)) i h
  whole-half i h p = into i (bar i) _ p

  pub tight : IsTightly n w
  tight = record {
    coherent = λ i j. same-bounds (w (bar j) (bar i)) (w i j) (range.range (bar j) (bar i)) (range.range i j)
        (λ x h. subst (λ (i : ℕ). IsUpTo (w i j) x) (bar-twice i) (subst (λ (j : ℕ). IsUpTo (w (bar (bar i)) j) x) (bar-twice j) (mirrored (bar j) (bar i) x h)))
        (λ x h. mirrored i j x h);
    zero = λ i h. at-zero (w i i) (range.range i i) (lower.lower i i (pos 0) (zero i h)) (λ x g. clash.zero_up i x g);
    triangle = λ i j k x y h g. from i j (x +ℤ y) (halved-joined bar bar-twice (Bounds m) (Bounds-up m) mirror through no-clash k i j x y (into i k x h) (into k j y g));
    even = λ i h p. from i (bar i) (h +ℤ h) (halved-even bar bar-twice (Bounds m) (Bounds-up m) mirror through i h (whole-half i h p));
    strong = λ i j h g p q. from i j (h +ℤ g) (halved-strong bar bar-twice (Bounds m) (Bounds-up m) mirror through i j h g (whole-half i h p) (whole-half (bar j) g (subst (λ (k : ℕ). IsUpTo (w (bar j) k) ((g +ℤ g) +ℤ pos 1)) (sym (bar-twice j)) q)));
  }
    where
      mirrored : (i j : ℕ) (x : ℤ) → IsUpTo (w i j) x → IsUpTo (w (bar j) (bar i)) x
      mirrored i j x h = from (bar j) (bar i) x (halved-mirror bar bar-twice (Bounds m) (Bounds-up m) mirror through i j x (into i j x h))

      at-zero : (e : Ext) → InRange e → IsUpTo e (pos 0) → ((x : ℤ) → IsUpTo e x → pos 0 ≤ℤ x) → e ≡ Fin (pos 0)
      at-zero Low r h g = absurd h
      at-zero (Fin x) r h g = let l : pos 0 ≤ℤ x = g x (omega (arith, ints)) in let e : x ≡ pos 0 = omega (arith, ints) in rw e refl
      at-zero High r h g = absurd h
