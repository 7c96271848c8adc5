-- What closing promises, from what the passes over the table do.
use Rattle.std.specs.Prelude.{ℕ, ℤ, pos, neg_ℤ, ◌≡◌, ◌≤◌, ◌+◌, ◌*◌, ◌/◌, ◌%◌, ◌+ℤ◌, ◌≤ℤ◌, ◌⊎◌, ◌↔◌, List}
use Rattle.std.specs.Int.{int_div_euclid, int_min}
use Rattle.std.proofs.Common.{arith, sym, subst, refl, ap, ◌∙◌, inl, inr}
use Rattle.std.proofs.lemmas.Int.{ints}
use Rattle.ext_int.specs.Ext.{Above, AtMost, lesser}
use Rattle.ext_int.specs.declared.Ext.{Ext}
use Rattle.ext_int.specs.declared.Ext.TheVariants.{Low, Fin, High}
use Rattle.bound_matrix.specs.Bound.{bar, row_start, InRange, AllInRange, cut, LowersTo, MatrixView, bound_at}
use Rattle.bound_matrix.specs.Points.{IsUpTo, Meets, IsSmall, IsSmallNumber, IsTight, IsPoint, WasTight, signed}
use Rattle.ext_int.specs.Valuation.{value_at}
use Rattle.bound_matrix.specs.Cells.{cell, Lowered, IsSigned, IsMirrored, IsTightly, WasTightly, Stored}
use Rattle.bound_matrix.proofs.Entries.{at-most-up, cut-same}
use Rattle.bound_matrix.proofs.Places.{Sign, even, odd, sign, bar-twice, bound-mirror, row_start-end}
use Rattle.bound_matrix.proofs.Sizes.{finite}
use Rattle.bound_matrix.proofs.Storing.{stored-same, at-places}
use Rattle.bound_matrix.proofs.Whole.{tight-same}

-- ---- the signed numbers of a valuation

twice-negated : (x : ℤ) → x ≡ neg_ℤ (neg_ℤ x)
twice-negated x = omega (arith, ints)

opposite : (v : List ℤ) (p : ℕ) → Sign p → signed v (bar p) ≡ neg_ℤ (signed v p)
unfolding signed
opposite v p (even a e f r s t) = let g : bar p / 2 ≡ p / 2 = omega arith in let h : bar p % 2 ≡ 1 = omega arith in rw (h, g, t) refl
opposite v p (odd a e f r s t) = let g : bar p / 2 ≡ p / 2 = omega arith in let h : bar p % 2 ≡ 0 = omega arith in rw (h, g, t) (twice-negated (value_at v (p / 2)))

pub signed-opposite : (v : List ℤ) → IsSigned (signed v)
signed-opposite v = record { signed = λ p. opposite v p (sign p) }

-- ---- lowered bounds

at-most-of : (e f : Ext) → InRange e → ((x : ℤ) → IsUpTo e x → IsUpTo f x) → AtMost f e
at-most-of Low f r h = absurd r
at-most-of (Fin a) Low r h = tt
at-most-of (Fin a) (Fin w) r h = h a (omega (arith, ints))
at-most-of (Fin a) High r h = h a (omega (arith, ints))
at-most-of High Low r h = tt
at-most-of High (Fin w) r h = tt
at-most-of High High r h = tt

above-of : (e f : Ext) (x : ℤ) → InRange e → ((x : ℤ) → IsUpTo e x → IsUpTo f x) → Above f x → Above e x
above-of Low f x r h g = absurd r
above-of (Fin a) Low x r h g = absurd g
above-of (Fin a) (Fin w) x r h g = let l : w ≤ℤ a = h a (omega (arith, ints)) in omega (arith, ints)
above-of (Fin a) High x r h g = absurd (h a (omega (arith, ints)))
above-of High f x r h g = tt

pub Lowered-at_most : (m w : ℕ → ℕ → Ext) → AllInRange m → Lowered m w → (i j : ℕ) → AtMost (w i j) (m i j)
Lowered-at_most m w r l i j = at-most-of (m i j) (w i j) (r.range i j) (l.lower i j)

pub Lowered-meets : (m w : ℕ → ℕ → Ext) (v : ℕ → ℤ) → AllInRange m → Lowered m w → Meets v w → Meets v m
Lowered-meets m w v r l h = record { meets = λ i j. above-of (m i j) (w i j) _ (r.range i j) (l.lower i j) (h.meets i j) }

-- ---- matrices with the same bounds

pub Meets-same : (m w : ℕ → ℕ → Ext) (v : ℕ → ℤ) → ((p q : ℕ) → w p q ≡ m p q) → Meets v m → Meets v w
Meets-same m w v e h = record { meets = λ i j. subst (λ (x : Ext). Above x (v j +ℤ neg_ℤ (v i))) (sym (e i j)) (h.meets i j) }

pub IsSmall-same : (m w : ℕ → ℕ → Ext) → ((p q : ℕ) → w p q ≡ m p q) → IsSmall m → IsSmall w
IsSmall-same m w e h = record { small = λ i j x d. h.small i j x (sym (e i j) ∙ d) }

pub mirrored-same : (n : ℕ) (m : MatrixView) (w : ℕ → ℕ → Ext) → ((p q : ℕ) → w p q ≡ bound_at m p q) → IsMirrored n w
mirrored-same n m w e = record { mirrored = λ i j. e (bar j) (bar i) ∙ (sym (bound-mirror m i j) ∙ sym (e i j)) }

-- ---- tightly closed

halves-of : (x : ℤ) → (h : ℤ) × ((x ≡ h +ℤ h) ⊎ (x ≡ (h +ℤ h) +ℤ pos 1))
halves-of x = (int_div_euclid x (pos 2), grind (arith, ints))

up-to : {e : Ext} {x : ℤ} → e ≡ Fin x → IsUpTo e x
up-to {e} {x} h = subst (λ (f : Ext). IsUpTo f x) (sym h) (omega (arith, ints))

pub IsTight-from : (n : ℕ) (m : ℕ → ℕ → Ext) → IsTightly n m → IsTight n m
IsTight-from n m t = record {
  coherent = t.coherent;
  zero = t.zero;
  triangle = λ i j k x y h g. t.triangle i j k x y (up-to h) (up-to g);
  even = λ i x h. by i x h (halves-of x);
  strong = λ i j h g a b. t.strong i j h g (at-most-up (m i (bar i)) (h +ℤ h) _ (up-to a) (omega (arith, ints))) (at-most-up (m (bar j) j) (g +ℤ g) _ (up-to b) (omega (arith, ints)));
}
  where
    by : (i : ℕ) (x : ℤ) → m i (bar i) ≡ Fin x → (h : ℤ) × ((x ≡ h +ℤ h) ⊎ (x ≡ (h +ℤ h) +ℤ pos 1)) → (h : ℤ) × (x ≡ h +ℤ h)
    by i x e (h, inl d) = (h, d)
    by i x e (h, inr d) = absurd (let l : x ≤ℤ (h +ℤ h) = subst (λ (f : Ext). IsUpTo f (h +ℤ h)) e (t.even i h (subst (λ (z : ℤ). IsUpTo (m i (bar i)) z) d (up-to e))) in omega (arith, ints))

pub IsTightly-from : (n : ℕ) (m : ℕ → ℕ → Ext) → IsTight n m → IsTightly n m
IsTightly-from n m t = record {
  coherent = t.coherent;
  zero = t.zero;
  triangle = λ i j k x y h g. let a = finite (m i k) x h in let b = finite (m k j) y g in at-most-up (m i j) (a.value +ℤ b.value) (x +ℤ y) (t.triangle i j k a.value b.value a.is b.is) (let l = a.most in let o = b.most in omega (arith, ints));
  even = λ i h p. let a = finite (m i (bar i)) _ p in below i h a.value a.is a.most (t.even i a.value a.is);
  strong = λ i j h g p q. let a = finite (m i (bar i)) _ p in let b = finite (m (bar j) j) _ q in both i j h g a.value b.value a.is b.is a.most b.most (t.even i a.value a.is) (t.even (bar j) b.value (ap (m (bar j)) (twice j) ∙ b.is));
}
  where
    twice : (j : ℕ) → bar (bar j) ≡ j
    twice j = bar-twice j

    below : (i : ℕ) (h w : ℤ) → m i (bar i) ≡ Fin w → w ≤ℤ ((h +ℤ h) +ℤ pos 1) → (k : ℤ) × (w ≡ k +ℤ k) → IsUpTo (m i (bar i)) (h +ℤ h)
    below i h w e l (k, d) = at-most-up (m i (bar i)) w (h +ℤ h) (up-to e) (omega (arith, ints))

    both : (i j : ℕ) (h g w u : ℤ) → m i (bar i) ≡ Fin w → m (bar j) j ≡ Fin u → w ≤ℤ ((h +ℤ h) +ℤ pos 1) → u ≤ℤ ((g +ℤ g) +ℤ pos 1) → (k : ℤ) × (w ≡ k +ℤ k) → (k : ℤ) × (u ≡ k +ℤ k) → IsUpTo (m i j) (h +ℤ g)
    both i j h g w u e f l o (k, d) (c, b) = at-most-up (m i j) (k +ℤ c) (h +ℤ g) (t.strong i j k c (e ∙ ap Fin d) (f ∙ ap Fin b)) (omega (arith, ints))

-- ---- a matrix that went through a table

module _ (m w : MatrixView) (n : ℕ) (t u : List Ext) (size : n ≡ m.vars + m.vars) (range : AllInRange (bound_at m)) (same : (p q : ℕ) → cell n t p q ≡ bound_at m p q) (inside : AllInRange (cell n u)) (low : Lowered (cell n t) (cell n u)) (sound : (v : ℕ → ℤ) → IsSigned v → Meets v (cell n t) → Meets v (cell n u)) (st : Stored n (cell n u) (bound_at m) (bound_at w)) where
  pub gone-points : (v : List ℤ) → IsPoint v m ↔ IsPoint v w
  gone-points v = (λ h. st.sound (signed v) (signed-opposite v) h (sound (signed v) (signed-opposite v) (Meets-same (bound_at m) (cell n t) (signed v) same h)), λ h. Lowered-meets (bound_at m) (bound_at w) (signed v) range st.lower h)

  pub gone-lower : (i j : ℕ) → AtMost (bound_at w i j) (bound_at m i j)
  gone-lower = Lowered-at_most (bound_at m) (bound_at w) range st.lower

  pub gone-tight : IsTightly n (cell n u) → IsTight (m.vars + m.vars) (bound_at w)
  gone-tight tight = subst (λ (n : ℕ). IsTight n (bound_at w)) size (IsTight-from n (bound_at w) (tight-same n (cell n u) (bound_at w) all tight))
    where
      lowered : Lowered (bound_at m) (cell n u)
      lowered = record { lower = λ i j x h. low.lower i j x (subst (λ (e : Ext). IsUpTo e x) (sym (same i j)) h) }

      all : (p q : ℕ) → bound_at w p q ≡ cell n u p q
      all = stored-same n m.vars u (bound_at m) (bound_at w) size inside (λ p q. tight.coherent p q) (λ p q. sym (bound-mirror w p q)) lowered st

-- ---- after one bound was lowered

pub was-tightly : (m : MatrixView) (n i j : ℕ) (w : ℕ → ℕ → Ext) → n ≡ m.vars + m.vars → ((p q : ℕ) → w p q ≡ bound_at m p q) → WasTight i j m → WasTightly n i j w
was-tightly m n i j w size same t = record {
  before = bound_at t.before;
  new = t.new;
  tight = subst (λ (n : ℕ). IsTightly n (bound_at t.before)) (sym size) (IsTightly-from (m.vars + m.vars) (bound_at t.before) t.tight);
  lowered = record {
    here = same i j ∙ t.lowered.here;
    mirror = same (bar j) (bar i) ∙ t.lowered.mirror;
    others = λ p q f g. same p q ∙ t.lowered.others p q f g;
  };
}

-- the steps of reading all bounds once, and of lowering each kept bound once
pub cost-whole : (v n a b c : ℕ) → n ≡ v + v → b ≡ a + n * n → c ≤ b + row_start n → c ≤ a + (6 * v * v + 40 * v + 20)
cost-whole v n a b c e f h = let r : row_start n ≡ 2 * v * (v + 1) = ap row_start e ∙ row_start-end v in let s : n * n ≡ (v + v) * (v + v) = rw e refl in let t : (v + v) * (v + v) ≡ 4 * v * v = grind arith in let u : 2 * v * (v + 1) ≡ 2 * v * v + 2 * v = grind arith in omega arith

pub cost-read : (v n a b : ℕ) → n ≡ v + v → b ≡ a + n * n → b ≤ a + (6 * v * v + 40 * v + 20)
cost-read v n a b e f = cost-whole v n a b b e f (omega arith)

-- ---- what a caller shows to close again

lesser-small : (e : Ext) (b x : ℤ) → ((x : ℤ) → e ≡ Fin x → IsSmallNumber x) → IsSmallNumber b → lesser e (Fin b) ≡ Fin x → IsSmallNumber x
lesser-small Low b x h s e = absurd cc
lesser-small (Fin w) b x h s e = let g = h w refl in let d : int_min w b ≡ x = cc in (grind (arith, ints), grind (arith, ints))
lesser-small High b x h s e = let d : b ≡ x = cc in subst IsSmallNumber d s

-- a matrix with no bounds is small
pub none-small : (m : MatrixView) → ((i j : ℕ) → bound_at m i j ≡ High) → IsSmall (bound_at m)
none-small m h = record { small = λ i j x e. absurd (let d = h i j in cc) }

-- so is one of which a bound was lowered to a small number
pub lowered-small : (i j : ℕ) (b : ℤ) (w u : ℕ → ℕ → Ext) → IsSmallNumber b → LowersTo i j (Fin b) w u → IsSmall w → IsSmall u
lowered-small i j b w u s l h = record { small = at-places i j (Fin b) w u l (λ p q. (x : ℤ) → u p q ≡ Fin x → IsSmallNumber x) (λ x e. new x (sym l.here ∙ e)) (λ x e. new x (sym l.mirror ∙ e)) (λ p q d x e. h.small p q x (sym d ∙ e)) }
  where
    new : (x : ℤ) → lesser (w i j) (cut (Fin b)) ≡ Fin x → IsSmallNumber x
    new x e = lesser-small (w i j) b x (h.small i j) s (ap (λ (c : Ext). lesser (w i j) c) (sym (cut-same (Fin b) (omega (arith, ints), omega (arith, ints)))) ∙ e)

-- a matrix that was tightly closed, and then lowered at one place
pub was-tight : (old closed m : MatrixView) (i j : ℕ) (b : Ext) → IsTight (old.vars + old.vars) (bound_at closed) → closed.vars ≡ old.vars → m.vars ≡ closed.vars → LowersTo i j b (bound_at closed) (bound_at m) → WasTight i j m
was-tight old closed m i j b t e f l = record {
  before = closed;
  new = b;
  tight = subst (λ (n : ℕ). IsTight n (bound_at closed)) (let d : old.vars ≡ m.vars = sym (f ∙ e) in ap (λ (v : ℕ). v + v) d) t;
  lowered = l;
}
