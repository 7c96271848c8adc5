-- A matrix that is drawn from a tightly closed one is tightly closed.
use Rattle.std.proofs.Common.{inl, inr, ℕ, ℤ, zero, suc, pos, negsuc, neg_ℤ, Option, None, Some, ◌≡◌, ◌<◌, ◌≤◌, ◌+◌, ◌-◌, ◌*◌, ◌/◌, ◌%◌, ◌+ℤ◌, ◌≤ℤ◌, refl, ap, sym, subst, ◌∙◌, arith, true, false, Bool, List}
use Rattle.std.specs.Prelude.{◌⊎◌}
use Rattle.std.specs.Int.{int_div_euclid}
use Rattle.std.proofs.lemmas.Int.{ints}
use Rattle.ext_int.specs.Ext.{half, negation, rounded_high}
use Rattle.ext_int.specs.declared.Ext.{Ext}
use Rattle.ext_int.specs.declared.Ext.TheVariants.{Low, Fin, High}
use Rattle.bound_matrix.specs.Bound.{MatrixView, bound_at, bar}
use Rattle.bound_matrix.specs.Points.{IsUpTo, IsTight}
use Rattle.bound_matrix.proofs.Places.{nat-either, nat-less_or, bound-mirror, bar-twice, entry-out, bar-less}
use Rattle.octagons_sources.specs.declared.source.Source.{Source}
use Rattle.octagons_sources.specs.Sources.{source_at, index_from, most_of, most_added, IsWide}
use Rattle.octagons_sources.specs.Drawn.{between, drawn_whole, whole_sum}
use Rattle.octagons_sources.proofs.Reading.{other_index, index_from-bar, bar-half, bar-rest, Parts, parts, whole_sum-is, drawn-same, drawn-other}

up-number : (e : Ext) (x : ℤ) → IsUpTo e x → (z : ℤ) × (e ≡ Fin z) × (z ≤ℤ x)
up-number Low x h = absurd h
up-number (Fin w) x h = (w, refl, h)
up-number High x h = absurd h

number-up : (e : Ext) (z x : ℤ) → e ≡ Fin z → z ≤ℤ x → IsUpTo e x
number-up e z x h l = rw h l

-- half of an even bound
half-number : (e : Ext) (x : ℤ) → half e ≡ Fin x → (z : ℤ) × (e ≡ Fin z) × (int_div_euclid z (pos 2) ≡ x)
half-number Low x e = cc
half-number (Fin z) x e = (z, refl, cc)
half-number High x e = cc

half-even : (h x z : ℤ) → z ≡ (h +ℤ h) → int_div_euclid z (pos 2) ≡ x → h ≡ x
half-even h x z e f = grind (arith, ints)

half-least : (z x : ℤ) → z ≤ℤ (x +ℤ x) → int_div_euclid z (pos 2) ≤ℤ x
half-least z x l = grind (arith, ints)

half-double : (h : ℤ) → int_div_euclid (h +ℤ h) (pos 2) ≡ h
half-double h = grind (arith, ints)

half-up : (e : Ext) (x : ℤ) → IsUpTo e (x +ℤ x) → IsUpTo (half e) x
half-up Low x h = h
half-up (Fin z) x h = half-least z x h
half-up High x h = h

module _ (m : MatrixView) (t : IsTight (m.vars + m.vars) (bound_at m)) where
  -- a half is exactly one
  halved : (i : ℕ) (x : ℤ) → half (bound_at m i (bar i)) ≡ Fin x → bound_at m i (bar i) ≡ Fin (x +ℤ x)
  halved i x e =
      let z = half-number (bound_at m i (bar i)) x e in
      let h = t.even i z.0 z.1 in
      let same : h.0 ≡ x = half-even h.0 x z.0 h.1 z.2 in
      z.1 ∙ ap Fin (h.1 ∙ ap (λ (y : ℤ). y +ℤ y) same)

  halved-back : (j : ℕ) (x : ℤ) → half (bound_at m (bar j) j) ≡ Fin x → bound_at m (bar j) j ≡ Fin (x +ℤ x)
  halved-back j x e =
      let f : half (bound_at m (bar j) (bar (bar j))) ≡ Fin x = ap (λ (k : ℕ). half (bound_at m (bar j) k)) (bar-twice j) ∙ e in
      ap (bound_at m (bar j)) (sym (bar-twice j)) ∙ halved (bar j) x f

  -- no bound of an index and itself is below 0
  not-below : (i : ℕ) (x : ℤ) → IsUpTo (bound_at m i i) x → pos 0 ≤ℤ x
  not-below i x h = nat-less_or i (m.vars + m.vars)
      (λ l. let u : IsUpTo (Fin (pos 0)) x = subst (λ (e : Ext). IsUpTo e x) (t.zero i l) h in u)
      (λ l. absurd (subst (λ (e : Ext). IsUpTo e x) (entry-out m.vars m.kept i i (λ a b. omega arith)) h))

  two-ways : (i k j : ℕ) (x y : ℤ) → IsUpTo (bound_at m i k) x → IsUpTo (bound_at m k j) y → IsUpTo (bound_at m i j) (x +ℤ y)
  two-ways i k j x y f g =
      let a = up-number (bound_at m i k) x f in
      let b = up-number (bound_at m k j) y g in
      let c = up-number (bound_at m i j) (a.0 +ℤ b.0) (t.triangle i j k a.0 b.0 a.1 b.1) in
      let l : a.0 ≤ℤ x = a.2 in let r : b.0 ≤ℤ y = b.2 in let w : c.0 ≤ℤ (a.0 +ℤ b.0) = c.2 in
      number-up (bound_at m i j) c.0 (x +ℤ y) c.1 (omega (arith, ints))

  number-self : (e : Ext) (x : ℤ) → e ≡ Fin x → IsUpTo e x
  number-self e x h = rw h (omega (arith, ints))

  mirror-up : (i j : ℕ) (x : ℤ) → IsUpTo (bound_at m i j) x → IsUpTo (bound_at m (bar j) (bar i)) x
  mirror-up i j x = subst (λ (e : Ext). IsUpTo e x) (bound-mirror m i j)

  -- bounds between indices compose, where a missing index stands for 0
  pub between-composes : (a b c : Option ℕ) (x y : ℤ) → between (bound_at m) a c ≡ Fin x → between (bound_at m) c b ≡ Fin y → IsUpTo (between (bound_at m) a b) (x +ℤ y)
  between-composes None None None x y e f = let g : x ≡ pos 0 = cc in let h : y ≡ pos 0 = cc in rw (g, h) (omega (arith, ints))
  between-composes None None (Some k) x y e f =
      let p = number-self _ (x +ℤ x) (halved-back k x e) in
      let q = number-self _ (y +ℤ y) (halved k y f) in
      let w = two-ways (bar k) k (bar k) (x +ℤ x) (y +ℤ y) p q in
      let l : pos 0 ≤ℤ ((x +ℤ x) +ℤ (y +ℤ y)) = not-below (bar k) _ w in
      double (x) y l
    where
      double : (x y : ℤ) → pos 0 ≤ℤ ((x +ℤ x) +ℤ (y +ℤ y)) → pos 0 ≤ℤ (x +ℤ y)
      double x y l = omega (arith, ints)
  between-composes None (Some j) None x y e f = let g : x ≡ pos 0 = cc in number-up (half (bound_at m (bar j) j)) y (x +ℤ y) f (rw g (omega (arith, ints)))
  between-composes None (Some j) (Some k) x y e f =
      let p = number-self _ (x +ℤ x) (halved-back k x e) in
      let q = number-self (bound_at m k j) y f in
      let r = mirror-up k j y q in
      half-up (bound_at m (bar j) j) (x +ℤ y) (subst (IsUpTo (bound_at m (bar j) j)) (order x y) (two-ways (bar j) (bar k) j y ((x +ℤ x) +ℤ y) r (two-ways (bar k) k j (x +ℤ x) y p q)))
    where
      order : (x y : ℤ) → (y +ℤ ((x +ℤ x) +ℤ y)) ≡ ((x +ℤ y) +ℤ (x +ℤ y))
      order x y = omega (arith, ints)
  between-composes (Some i) None None x y e f = let g : y ≡ pos 0 = cc in number-up (half (bound_at m i (bar i))) x (x +ℤ y) e (rw g (omega (arith, ints)))
  between-composes (Some i) None (Some k) x y e f =
      let p = number-self (bound_at m i k) x e in
      let q = number-self _ (y +ℤ y) (halved k y f) in
      let r = mirror-up i k x p in
      half-up (bound_at m i (bar i)) (x +ℤ y) (subst (IsUpTo (bound_at m i (bar i))) (order x y) (two-ways i k (bar i) x ((y +ℤ y) +ℤ x) p (two-ways k (bar k) (bar i) (y +ℤ y) x q r)))
    where
      order : (x y : ℤ) → (x +ℤ ((y +ℤ y) +ℤ x)) ≡ ((x +ℤ y) +ℤ (x +ℤ y))
      order x y = omega (arith, ints)
  between-composes (Some i) (Some j) None x y e f = t.strong i j x y (halved i x e) (halved-back j y f)
  between-composes (Some i) (Some j) (Some k) x y e f = t.triangle i j k x y e f

  -- an index and itself
  between-self : (a : Option ℕ) (x : ℤ) → IsUpTo (between (bound_at m) a a) x → pos 0 ≤ℤ x
  between-self None x h = h
  between-self (Some i) x h = not-below i x h

  -- twice the bound between an index and 0 is that between it and its partner
  to-zero : (a : Option ℕ) (x : ℤ) → between (bound_at m) a (other_index a) ≡ Fin x → (h : ℤ) × (x ≡ (h +ℤ h)) × (between (bound_at m) a None ≡ Fin h)
  to-zero None x e = (pos 0, cc, refl)
  to-zero (Some i) x e =
      let h = t.even i x e in
      (h.0, h.1, ap half (e ∙ ap Fin h.1) ∙ ap Fin (half-double h.0))

  from-zero : (b : Option ℕ) (x : ℤ) → between (bound_at m) (other_index b) b ≡ Fin x → (h : ℤ) × (x ≡ (h +ℤ h)) × (between (bound_at m) None b ≡ Fin h)
  from-zero None x e = (pos 0, cc, refl)
  from-zero (Some j) x e =
      let f : bound_at m (bar j) (bar (bar j)) ≡ Fin x = ap (bound_at m (bar j)) (bar-twice j) ∙ e in
      let h = t.even (bar j) x f in
      (h.0, h.1, ap half (e ∙ ap Fin h.1) ∙ ap Fin (half-double h.0))

  module _ (from : List Source) (w : MatrixView)
      (wide : (k : ℕ) → IsWide (source_at from k))
      (inside : (p q : ℕ) → p < w.vars + w.vars → q < w.vars + w.vars → bound_at w p q ≡ drawn_whole from (bound_at m) p q) where
    -- what is added to an index and to its partner is not below 0
    span : (p : ℕ) (a b : ℤ) → most_added from p ≡ Fin a → most_added from (bar p) ≡ Fin b → pos 0 ≤ℤ (a +ℤ b)
    span p a b e f = nat-either (p % 2) 0
        (λ z. let u : most_added from p ≡ (source_at from (p / 2)).hi = rw z refl in
        let v : most_added from (bar p) ≡ rounded_high (negation (source_at from (p / 2)).lo) = low (bar-rest p ∙ ap (λ (k : ℕ). 1 - k) z) in
        (wide (p / 2)).wide a b (sym u ∙ e) (sym v ∙ f))
        (λ z. let o : p % 2 ≡ 1 = omega arith in
        let u : most_added from p ≡ rounded_high (negation (source_at from (p / 2)).lo) = rw o refl in
        let v : most_added from (bar p) ≡ (source_at from (p / 2)).hi = high (bar-rest p ∙ ap (λ (k : ℕ). 1 - k) o) in
        let l : pos 0 ≤ℤ (b +ℤ a) = (wide (p / 2)).wide b a (sym v ∙ f) (sym u ∙ e) in omega (arith, ints))
      where
        low : bar p % 2 ≡ 1 → most_added from (bar p) ≡ rounded_high (negation (source_at from (p / 2)).lo)
        low o = ap (λ (k : ℕ). most_of (source_at from k) (bar p)) (bar-half p) ∙ rw o refl

        high : bar p % 2 ≡ 0 → most_added from (bar p) ≡ (source_at from (p / 2)).hi
        high o = ap (λ (k : ℕ). most_of (source_at from k) (bar p)) (bar-half p) ∙ rw o refl

    -- a bound of the drawn matrix is 0 at an index and itself, and else a sum
    read : (p q : ℕ) (x : ℤ) → bound_at w p q ≡ Fin x → (p ≡ q → ⊥) → Parts (between (bound_at m) (index_from from p) (index_from from q)) (most_added from q) (most_added from (bar p)) x
    read p q x e d = nat-less_or p (w.vars + w.vars)
        (λ k. nat-less_or q (w.vars + w.vars)
        (λ l. parts _ _ _ x (sym (drawn-other from (bound_at m) p q d) ∙ (sym (inside p q k l) ∙ e)))
        (λ l. outside (λ a b. omega arith)))
        (λ k. outside (λ a b. omega arith))
      where
        outside : (p < w.vars + w.vars → q < w.vars + w.vars → ⊥) → Parts (between (bound_at m) (index_from from p) (index_from from q)) (most_added from q) (most_added from (bar p)) x
        outside f = let h : High ≡ Fin x = sym (entry-out w.vars w.kept p q f) ∙ e in cc

    -- the bound of two indices is at most the sum of a bound of their sources and what is added
    below : (p q : ℕ) (y a b x : ℤ) → p < w.vars + w.vars → q < w.vars + w.vars → (p ≡ q → ⊥) → IsUpTo (between (bound_at m) (index_from from p) (index_from from q)) y → most_added from q ≡ Fin a → most_added from (bar p) ≡ Fin b → ((y +ℤ a) +ℤ b) ≤ℤ x → IsUpTo (bound_at w p q) x
    below p q y a b x k l d u e f h =
        let z = up-number _ y u in let g : z.0 ≤ℤ y = z.2 in
        number-up (bound_at w p q) ((z.0 +ℤ a) +ℤ b) x
        (inside p q k l ∙ (drawn-other from (bound_at m) p q d ∙ whole_sum-is _ _ _ z.0 a b z.1 e f)) (omega (arith, ints))

    inner : (p q : ℕ) (x : ℤ) → bound_at w p q ≡ Fin x → (p < w.vars + w.vars) × (q < w.vars + w.vars)
    inner p q x e = nat-less_or p (w.vars + w.vars)
        (λ k. nat-less_or q (w.vars + w.vars) (λ l. (k, l)) (λ l. none (λ a b. omega arith)))
        (λ k. none (λ a b. omega arith))
      where
        none : (p < w.vars + w.vars → q < w.vars + w.vars → ⊥) → (p < w.vars + w.vars) × (q < w.vars + w.vars)
        none f = let h : High ≡ Fin x = sym (entry-out w.vars w.kept p q f) ∙ e in cc

    self : (p : ℕ) → p < w.vars + w.vars → bound_at w p p ≡ Fin (pos 0)
    self p k = inside p p k k ∙ drawn-same from (bound_at m) p p refl

    self-is : (p q : ℕ) (x : ℤ) → p ≡ q → bound_at w p q ≡ Fin x → x ≡ pos 0
    self-is p q x d e =
        let i = inner p q x e in
        let h : Fin x ≡ Fin (pos 0) = sym e ∙ (inside p q i.0 i.1 ∙ drawn-same from (bound_at m) p q d) in cc

    composes : (i j k : ℕ) (x y : ℤ) → bound_at w i k ≡ Fin x → bound_at w k j ≡ Fin y → (i ≡ k → ⊥) → (k ≡ j → ⊥) → IsUpTo (bound_at w i j) (x +ℤ y)
    composes i j k x y e f d c =
        let p = read i k x e d in let q = read k j y f c in
        let both = between-composes (index_from from i) (index_from from j) (index_from from k) p.first q.first p.first_is q.first_is in
        let gap : pos 0 ≤ℤ (p.second +ℤ q.third) = span k p.second q.third p.second_is q.third_is in
        let s = p.sum in let t' = q.sum in
        nat-either i j
        (λ z.
        let own : pos 0 ≤ℤ (p.first +ℤ q.first) = between-self (index_from from i) (p.first +ℤ q.first) (subst (λ (o : ℕ). IsUpTo (between (bound_at m) (index_from from i) (index_from from o)) (p.first +ℤ q.first)) (sym z) both) in
        let far : pos 0 ≤ℤ (q.second +ℤ p.third) = span i q.second p.third (ap (most_added from) z ∙ q.second_is) p.third_is in
        let l : pos 0 ≤ℤ (x +ℤ y) = omega (arith, ints) in
        let a = inner i k x e in
        subst (λ (o : ℕ). IsUpTo (bound_at w i o) (x +ℤ y)) z (number-up (bound_at w i i) (pos 0) (x +ℤ y) (self i a.0) l))
        (λ z.
        let a = inner i k x e in let b = inner k j y f in
        below i j (p.first +ℤ q.first) q.second p.third (x +ℤ y) a.0 b.1 z both q.second_is p.third_is (omega (arith, ints)))

    triangle : (i j k : ℕ) (x y : ℤ) → bound_at w i k ≡ Fin x → bound_at w k j ≡ Fin y → IsUpTo (bound_at w i j) (x +ℤ y)
    triangle i j k x y e f = nat-either i k
        (λ d. let z : x ≡ pos 0 = self-is i k x d e in
        number-up (bound_at w i j) y (x +ℤ y) (ap (λ (o : ℕ). bound_at w o j) d ∙ f) (rw z (omega (arith, ints))))
        (λ d. nat-either k j
        (λ c. let z : y ≡ pos 0 = self-is k j y c f in
        number-up (bound_at w i j) x (x +ℤ y) (ap (bound_at w i) (sym c) ∙ e) (rw z (omega (arith, ints))))
        (λ c. composes i j k x y e f d c))

    bar-other : (i : ℕ) → i ≡ bar i → ⊥
    bar-other i e = let h = bar-rest i in let g : i % 2 ≡ bar i % 2 = ap (λ (k : ℕ). k % 2) e in omega arith

    partner : (i : ℕ) (x : ℤ) → bound_at w i (bar i) ≡ Fin x → (h : ℤ) × (b : ℤ) × (x ≡ ((h +ℤ h) +ℤ (b +ℤ b))) × (between (bound_at m) (index_from from i) None ≡ Fin h) × (most_added from (bar i) ≡ Fin b)
    partner i x e =
        let p = read i (bar i) x e (bar-other i) in
        let z = to-zero (index_from from i) p.first (ap (between (bound_at m) (index_from from i)) (sym (index_from-bar from i)) ∙ p.first_is) in
        let same : Fin p.second ≡ Fin p.third = sym p.second_is ∙ p.third_is in
        let s = p.sum in let g : p.first ≡ (z.0 +ℤ z.0) = z.1 in
        let t' : p.second ≡ p.third = cc in
        (z.0, p.third, omega (arith, ints), z.2, p.third_is)

    partner-back : (j : ℕ) (x : ℤ) → bound_at w (bar j) j ≡ Fin x → (h : ℤ) × (b : ℤ) × (x ≡ ((h +ℤ h) +ℤ (b +ℤ b))) × (between (bound_at m) None (index_from from j) ≡ Fin h) × (most_added from j ≡ Fin b)
    partner-back j x e =
        let p = read (bar j) j x e (λ d. bar-other j (sym d)) in
        let z = from-zero (index_from from j) p.first (ap (λ (o : Option ℕ). between (bound_at m) o (index_from from j)) (sym (index_from-bar from j)) ∙ p.first_is) in
        let same : Fin p.second ≡ Fin p.third = sym p.second_is ∙ (ap (most_added from) (sym (bar-twice j)) ∙ p.third_is) in
        let s = p.sum in let g : p.first ≡ (z.0 +ℤ z.0) = z.1 in
        let t' : p.second ≡ p.third = cc in
        (z.0, p.second, omega (arith, ints), z.2, p.second_is)

    halve : (h g b : ℤ) → (h +ℤ h) ≡ ((g +ℤ g) +ℤ (b +ℤ b)) → h ≡ (g +ℤ b)
    halve h g b e = omega (arith, ints)

    strong : (i j : ℕ) (h g : ℤ) → bound_at w i (bar i) ≡ Fin (h +ℤ h) → bound_at w (bar j) j ≡ Fin (g +ℤ g) → IsUpTo (bound_at w i j) (h +ℤ g)
    strong i j h g e f =
        let p = partner i (h +ℤ h) e in let q = partner-back j (g +ℤ g) f in
        let ph : h ≡ (p.0 +ℤ p.1) = halve h p.0 p.1 p.2 in
        let qh : g ≡ (q.0 +ℤ q.1) = halve g q.0 q.1 q.2 in
        let a = inner i (bar i) (h +ℤ h) e in let b = inner (bar j) j (g +ℤ g) f in
        nat-either i j
        (λ z.
        let back = triangle i i (bar i) (h +ℤ h) (g +ℤ g) e (ap (λ (o : ℕ). bound_at w (bar o) o) z ∙ f) in
        let own : IsUpTo (Fin (pos 0)) ((h +ℤ h) +ℤ (g +ℤ g)) = subst (λ (o : Ext). IsUpTo o ((h +ℤ h) +ℤ (g +ℤ g))) (self i a.0) back in
        subst (λ (o : ℕ). IsUpTo (bound_at w i o) (h +ℤ g)) z (number-up (bound_at w i i) (pos 0) (h +ℤ g) (self i a.0) (least h g own)))
        (λ z.
        let both = between-composes (index_from from i) (index_from from j) None p.0 q.0 p.3 q.3 in
        below i j (p.0 +ℤ q.0) q.1 p.1 (h +ℤ g) a.0 b.1 z both q.4 p.4 (omega (arith, ints)))
      where
        least : (h g : ℤ) → pos 0 ≤ℤ ((h +ℤ h) +ℤ (g +ℤ g)) → pos 0 ≤ℤ (h +ℤ g)
        least h g l = omega (arith, ints)

    pub drawn-tight : IsTight (w.vars + w.vars) (bound_at w)
    drawn-tight = record {
      coherent = λ i j. sym (bound-mirror w i j);
      zero = self;
      triangle = triangle;
      even = λ i x e. let p = partner i x e in (p.0 +ℤ p.1, let s : x ≡ ((p.0 +ℤ p.0) +ℤ (p.1 +ℤ p.1)) = p.2 in omega (arith, ints));
      strong = strong;
    }
