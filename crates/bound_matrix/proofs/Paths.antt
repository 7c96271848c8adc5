-- The loops over the diagonal and over the pivots.
use Rattle.std.specs.Prelude.{ℕ, ℤ, pos, neg_ℤ, ◌≡◌, ◌<◌, ◌≤◌, ◌+◌, ◌^◌, ◌+ℤ◌, ◌≤ℤ◌, List}
use Rattle.std.proofs.Common.{arith, sym, subst, refl, ◌∙◌}
use Rattle.std.proofs.lemmas.Int.{ints}
use Rattle.ext_int.specs.declared.Ext.{Ext}
use Rattle.ext_int.specs.declared.Ext.TheVariants.{Low, Fin, High}
use Rattle.bound_matrix.specs.Rel.{Through, Within, NotBelowZero}
use Rattle.bound_matrix.proofs.Ways.{Up, Added, old, via}
use Rattle.bound_matrix.specs.Entry.{Near, Staged, Bounds, kept, better}
use Rattle.bound_matrix.specs.Cells.{cell, IsTable, SameBut, NearAt, Lowered, PivotUp, IsClosed, IsLeast}
use Rattle.bound_matrix.proofs.Tables.{cell-out}
use Rattle.bound_matrix.proofs.Entries.{at-most-up, at-most-or, zero-range, lesser-lowers, lesser-above, lesser-first, lesser-second}
use Rattle.bound_matrix.proofs.Closing.{Added-through, Added-through_new, Added-within}
use Rattle.bound_matrix.proofs.Sizes.{Sized-step, tally-most}
use Rattle.ext_int.specs.Ext.{Above, lesser}
use Rattle.bound_matrix.specs.Bound.{AllInRange, InRange}
use Rattle.bound_matrix.proofs.Places.{nat-either, nat-less_or}
use Rattle.bound_matrix.specs.Points.{IsSmall, IsUpTo, Meets}
use Rattle.bound_matrix.proofs.Sizes.{Sized, between}

pub Bounds-up : (m : ℕ → ℕ → Ext) → Up (Bounds m)
Bounds-up m = record { up = λ i j x y h l. at-most-up (m i j) x y h l }

pub staged-into : (m w : ℕ → ℕ → Ext) (k i j : ℕ) (x : ℤ) → Staged m w k i j → IsUpTo (w i j) x → Added (Bounds m) k k (pos 0) i j x
staged-into m w k i j x (kept e g) h = old (subst (λ (f : Ext). IsUpTo f x) e h)
staged-into m w k i j x (better y z p q e never) h = via y z (subst (λ (f : Ext). IsUpTo f y) (sym p) (omega (arith, ints))) (subst (λ (f : Ext). IsUpTo f z) (sym q) (omega (arith, ints))) (let l : (y +ℤ z) ≤ℤ x = subst (λ (f : Ext). IsUpTo f x) e h in omega (arith, ints))

pub staged-from : (m w : ℕ → ℕ → Ext) (k i j : ℕ) (x : ℤ) → Lowered m w → Staged m w k i j → Added (Bounds m) k k (pos 0) i j x → IsUpTo (w i j) x
staged-from m w k i j x l s (old h) = l.lower i j x h
staged-from m w k i j x l (kept e g) (via y z p q h) = at-most-up (w i j) (y +ℤ z) x (subst (λ (f : Ext). IsUpTo f (y +ℤ z)) (sym e) (g y z p q)) (omega (arith, ints))
staged-from m w k i j x l (better v u r s e never) (via y z p q h) = subst (λ (f : Ext). IsUpTo f x) (sym e) (let a : v ≤ℤ y = subst (λ (f : Ext). IsUpTo f y) r p in let b : u ≤ℤ z = subst (λ (f : Ext). IsUpTo f z) s q in omega (arith, ints))

pub record Progress (n k : ℕ) (m w : ℕ → ℕ → Ext) : Type 0 where
  pub range : AllInRange w
  pub lower : Lowered m w
  pub sound : (v : ℕ → ℤ) → Meets v m → Meets v w
  pub zero : (i : ℕ) → i < n → IsUpTo (w i i) (pos 0)
  pub up : NotBelowZero (Bounds w)
  pub sized : IsSmall m → Sized (2 ^ 90) k w
  pub through : IsSmall m → (a : ℕ) → a < k → Through (Bounds w) a
  pub least : IsSmall m → IsLeast n m w

pub progress-start : (n : ℕ) (m w : ℕ → ℕ → Ext) → AllInRange w → Lowered m w → ((v : ℕ → ℤ) → Meets v m → Meets v w) → ((i : ℕ) → i < n → IsUpTo (w i i) (pos 0)) → (IsSmall m → IsSmall w) → IsLeast n m w → NotBelowZero (Bounds w) → Progress n 0 m w
progress-start n m w r l s z small least up = record {
  range = r;
  lower = l;
  sound = s;
  zero = z;
  up = up;
  sized = λ h. record { size = λ i j x e. let b = (small h).small i j x e in (omega (arith, ints), omega (arith, ints)) };
  through = λ h a g. absurd (omega arith);
  least = λ h. least;
}

module _ (n k : ℕ) (few : n ≤ 48) (inside : k < n) (m w u : ℕ → ℕ → Ext) (p : Progress n k m w) (range : AllInRange u) (lower : Lowered w u) (sound : (v : ℕ → ℤ) → Meets v w → Meets v u) (staged : NearAt w k → PivotUp w k → (p q : ℕ) → Staged w u k p q) (up : NotBelowZero (Bounds u)) where
  near-of : (e : Ext) → InRange e → ((x : ℤ) → e ≡ Fin x → (x ≤ℤ pos (2 ^ 99)) × (neg_ℤ (pos (2 ^ 99)) ≤ℤ x)) → Near e
  near-of Low r h = absurd r
  near-of (Fin x) r h = h x refl
  near-of High r h = tt

  near : IsSmall m → (i j : ℕ) → Near (w i j)
  near h i j = near-of (w i j) (p.range.range i j) (λ x e. let b = (p.sized h).size i j x e in let t = tally-most (2 ^ 90) (λ (a : ℕ). between (w i a) (w a j) (w i j)) k in (omega (arith, ints), omega (arith, ints)))

  all-staged : IsSmall m → (i j : ℕ) → Staged w u k i j
  all-staged h = staged (record { near_in = λ i. near h i k; near_out = λ j. near h k j }) (record { pivot_up = λ x l. p.up.zero_up k x l })

  through-step : IsSmall m → (a : ℕ) → Through (Added (Bounds w) k k (pos 0)) a → Through (Bounds u) a
  through-step h a t = record { joined = λ i j x y f g. staged-from w u k i j _ lower (all-staged h i j) (t.joined i j x y (staged-into w u k i a x (all-staged h i a) f) (staged-into w u k a j y (all-staged h a j) g)) }

  pivot-ok : (x : ℤ) → IsUpTo (w k k) x → pos 0 ≤ℤ (pos 0 +ℤ x)
  pivot-ok x h = let l : pos 0 ≤ℤ x = p.up.zero_up k x h in omega (arith, ints)

  pub progress-step : Progress n (k + 1) m u
  progress-step = record {
    range = range;
    lower = record { lower = λ i j x h. lower.lower i j x (p.lower.lower i j x h) };
    sound = λ v h. sound v (p.sound v h);
    zero = λ i h. lower.lower i i (pos 0) (p.zero i h);
    up = up;
    sized = λ h. subst (λ (j : ℕ). Sized (2 ^ 90) j u) (omega arith) (Sized-step (2 ^ 90) k w u (all-staged h) (p.through h) up (p.sized h));
    through = λ h a l. nat-either a k
        (λ e. subst (λ (a : ℕ). Through (Bounds u) a) (sym e) (through-step h k (Added-through_new (Bounds-up w) p.up)))
        (λ d. through-step h a (Added-through (Bounds-up w) pivot-ok (p.through h a (omega arith))));
    least = λ h. record { least = λ c f g. record { into = λ i j x l. (Added-within ((p.least h).least c f g) (Bounds-up c) (f.through k inside) (f.through k inside) (f.zero k inside)).into i j x (staged-into w u k i j x (all-staged h i j) l) } };
  }

pub closed-at : (n k : ℕ) (m w : ℕ → ℕ → Ext) → n ≤ k → Progress n k m w → IsSmall m → IsClosed n w
closed-at n k m w h p s = record { zero = p.zero; through = λ a l. p.through s a (omega arith) }

pub all-up : (n i : ℕ) (s : List Ext) → n ≤ i → ((p : ℕ) → p < i → (x : ℤ) → IsUpTo (cell n s p p) x → pos 0 ≤ℤ x) → NotBelowZero (Bounds (cell n s))
all-up n i s l h = record { zero_up = λ p x g. nat-less_or p n (λ a. h p (omega arith) x g) (λ a. absurd (subst (λ (e : Ext). IsUpTo e x) (cell-out n s p p (λ b _. absurd (omega arith))) g)) }

pub one-more : (n i : ℕ) (s : List Ext) (e : Ext) → e ≡ cell n s i i → ((x : ℤ) → IsUpTo e x → pos 0 ≤ℤ x) → ((p : ℕ) → p < i → (x : ℤ) → IsUpTo (cell n s p p) x → pos 0 ≤ℤ x) → (p : ℕ) → p < i + 1 → (x : ℤ) → IsUpTo (cell n s p p) x → pos 0 ≤ℤ x
one-more n i s e q f h p l x g = nat-either p i (λ d. f x (subst (λ (e : Ext). IsUpTo e x) (sym q) (subst (λ (p : ℕ). IsUpTo (cell n s p p) x) d g))) (λ d. h p (omega arith) x g)

pub no-point : (i : ℕ) (m : ℕ → ℕ → Ext) (e : Ext) → e ≡ m i i → (Above e (pos 0) → ⊥) → (v : ℕ → ℤ) → Meets v m → ⊥
no-point i m e q f v h = let z : v i +ℤ neg_ℤ (v i) ≡ pos 0 = omega (arith, ints) in f (subst (λ (x : ℤ). Above e x) z (subst (λ (e : Ext). Above e (v i +ℤ neg_ℤ (v i))) (sym q) (h.meets i i)))

-- the lesser of zero and an cell
pub record IsLesser (e f : Ext) : Type 0 where
  pub range : InRange f
  pub lower : (y : ℤ) → IsUpTo e y → IsUpTo f y
  pub sound : (w : ℤ) → w ≤ℤ pos 0 → Above e w → Above f w
  pub kept : IsUpTo e (pos 0) → f ≡ e
  pub better : (IsUpTo e (pos 0) → ⊥) → f ≡ Fin (pos 0)

pub zero-lesser : (e : Ext) → InRange e → IsLesser e (lesser e (Fin (pos 0)))
zero-lesser e r = record {
  range = zero-range e r;
  lower = λ y h. lesser-lowers e (Fin (pos 0)) y (omega (arith, ints), omega (arith, ints)) h;
  sound = λ w l h. lesser-above e (Fin (pos 0)) w h l;
  kept = λ h. lesser-first e (pos 0) h;
  better = λ h. lesser-second e (pos 0) r h;
}

pub lesser-moved : {e f e2 f2 : Ext} → e ≡ e2 → f2 ≡ f → IsLesser e f → IsLesser e2 f2
lesser-moved {e} {f} {e2} {f2} r s h = subst (λ (e : Ext). IsLesser e f2) r (subst (λ (f : Ext). IsLesser e f) (sym s) h)

pub record Diagonal (n i : ℕ) (m w : ℕ → ℕ → Ext) : Type 0 where
  pub range : AllInRange w
  pub lower : Lowered m w
  pub sound : (v : ℕ → ℤ) → Meets v m → Meets v w
  pub zero : (p : ℕ) → p < i → IsUpTo (w p p) (pos 0)
  pub small : IsSmall m → IsSmall w
  pub least : IsLeast n m w

pub record DiagonalLoop (n i : ℕ) (t s : List Ext) : Type 0 where
  pub table : IsTable n s
  pub so_far : Diagonal n i (cell n t) (cell n s)

pub diagonal-start : (n : ℕ) (m : ℕ → ℕ → Ext) → AllInRange m → Diagonal n 0 m m
diagonal-start n m r = record {
  range = r;
  lower = record { lower = λ p q x h. h };
  sound = λ v h. h;
  zero = λ p l. absurd (omega arith);
  small = λ h. h;
  least = record { least = λ c f g. g };
}

module _ (n i : ℕ) (inside : i < n) (m w u : ℕ → ℕ → Ext) (s : Diagonal n i m w) (f : IsLesser (w i i) (u i i)) (o : SameBut i i w u) where
  at-diagonal : (P : ℕ → ℕ → Type 0) → P i i → ((p q : ℕ) → u p q ≡ w p q → P p q) → (p q : ℕ) → P p q
  at-diagonal P h g p q = nat-either p i (λ e. nat-either q i (λ d. subst (λ (p : ℕ). P p q) (sym e) (subst (λ (q : ℕ). P i q) (sym d) h)) (λ d. g p q (o.other_place p q d))) (λ e. g p q (o.other_row p q e))

  lesser-zero : IsUpTo (u i i) (pos 0)
  lesser-zero = at-most-or (w i i) (pos 0) (λ l. f.lower (pos 0) l) (λ l. subst (λ (e : Ext). IsUpTo e (pos 0)) (sym (f.better l)) (omega (arith, ints)))

  lesser-small : IsSmall w → (x : ℤ) → u i i ≡ Fin x → (x ≤ℤ pos (2 ^ 90)) × (neg_ℤ (pos (2 ^ 90)) ≤ℤ x)
  lesser-small h x e = at-most-or (w i i) (pos 0) (λ l. h.small i i x (sym (f.kept l) ∙ e)) (λ l. let b = f.better l in let z : x ≡ pos 0 = cc in (omega (arith, ints), omega (arith, ints)))

  lesser-least : (c : ℕ → ℕ → Ext) → IsClosed n c → Within (Bounds w) (Bounds c) → (x : ℤ) → IsUpTo (u i i) x → IsUpTo (c i i) x
  lesser-least c h g x l = at-most-or (w i i) (pos 0) (λ a. g.into i i x (subst (λ (e : Ext). IsUpTo e x) (f.kept a) l)) (λ a. at-most-up (c i i) (pos 0) x (h.zero i inside) (subst (λ (e : Ext). IsUpTo e x) (f.better a) l))

  pub diagonal-step : Diagonal n (i + 1) m u
  diagonal-step = record {
    range = record { range = at-diagonal (λ p q. InRange (u p q)) f.range (λ p q e. subst InRange (sym e) (s.range.range p q)) };
    lower = record { lower = at-diagonal (λ p q. (x : ℤ) → IsUpTo (m p q) x → IsUpTo (u p q) x) (λ x h. f.lower x (s.lower.lower i i x h)) (λ p q e x h. subst (λ (y : Ext). IsUpTo y x) (sym e) (s.lower.lower p q x h)) };
    sound = λ v h. let g = s.sound v h in record { meets = at-diagonal (λ p q. Above (u p q) (v q +ℤ neg_ℤ (v p))) (f.sound _ (omega (arith, ints)) (g.meets i i)) (λ p q e. subst (λ (x : Ext). Above x (v q +ℤ neg_ℤ (v p))) (sym e) (g.meets p q)) };
    zero = λ p l. nat-either p i (λ e. subst (λ (p : ℕ). IsUpTo (u p p) (pos 0)) (sym e) lesser-zero) (λ d. subst (λ (e : Ext). IsUpTo e (pos 0)) (sym (o.other_row p p d)) (s.zero p (omega arith)));
    small = λ h. let g = s.small h in record { small = at-diagonal (λ p q. (x : ℤ) → u p q ≡ Fin x → (x ≤ℤ pos (2 ^ 90)) × (neg_ℤ (pos (2 ^ 90)) ≤ℤ x)) (lesser-small g) (λ p q e x h. g.small p q x (sym e ∙ h)) };
    least = record { least = λ c f g. let w2 = s.least.least c f g in record { into = at-diagonal (λ p q. (x : ℤ) → IsUpTo (u p q) x → IsUpTo (c p q) x) (lesser-least c f w2) (λ p q e x h. w2.into p q x (subst (λ (y : Ext). IsUpTo y x) e h)) } };
  }

pub record CloseLoop (n k : ℕ) (t s : List Ext) : Type 0 where
  pub table : IsTable n s
  pub progress : Progress n k (cell n t) (cell n s)

pub near-end : (n k : ℕ) (m w : ℕ → ℕ → Ext) → n ≤ 48 → k ≤ n → Progress n k m w → IsSmall m → (i j : ℕ) → Near (w i j)
near-end n k m w few le p h i j = near-by (w i j) (p.range.range i j) (λ x e. let b = (p.sized h).size i j x e in let t = tally-most (2 ^ 90) (λ (a : ℕ). between (w i a) (w a j) (w i j)) k in (omega (arith, ints), omega (arith, ints)))
  where
    near-by : (e : Ext) → InRange e → ((x : ℤ) → e ≡ Fin x → (x ≤ℤ pos (2 ^ 99)) × (neg_ℤ (pos (2 ^ 99)) ≤ℤ x)) → Near e
    near-by Low r h = absurd r
    near-by (Fin x) r h = h x refl
    near-by High r h = tt
