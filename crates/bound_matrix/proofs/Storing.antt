-- Copying bounds into a table and lowering the kept bounds to those of the table.
use Rattle.std.specs.Prelude.{ℕ, ℤ, neg_ℤ, ◌≡◌, ◌<◌, ◌≤◌, ◌+◌, ◌+ℤ◌, List}
use Rattle.std.proofs.Common.{arith, sym, subst, ◌∙◌}
use Rattle.std.proofs.lemmas.Int.{ints}
use Rattle.ext_int.specs.Ext.{Above, lesser}
use Rattle.ext_int.specs.declared.Ext.{Ext}
use Rattle.bound_matrix.specs.Bound.{bar, reach, InRange, AllInRange, LowersTo, cut, MatrixView, bound_at}
use Rattle.bound_matrix.specs.Points.{IsUpTo, Meets}
use Rattle.bound_matrix.specs.Cells.{IsTable, cell, Lowered, IsSigned, RowStored, Stored}
use Rattle.bound_matrix.proofs.Places.{nat-either, nat-less_or, bar-less, other-side, inside-or, entry-out}
use Rattle.bound_matrix.proofs.Entries.{lesser-range, lesser-lowers, lesser-takes, lesser-of, lesser-above, cut-range, cut-same, cut-above}
use Rattle.bound_matrix.proofs.Tables.{cell-out}
use Rattle.bound_matrix.proofs.Tight.{same-bounds}

-- ---- loading

-- the row of i up to j
pub record LoadRow (n i j : ℕ) (m : ℕ → ℕ → Ext) (t s : List Ext) : Type 0 where
  pub table : IsTable n s
  pub done : (q : ℕ) → q < j → cell n s i q ≡ m i q
  pub others : (p q : ℕ) → (p ≡ i → ⊥) → cell n s p q ≡ cell n t p q

-- the rows up to i
pub record LoadRows (n i : ℕ) (m : ℕ → ℕ → Ext) (s : List Ext) : Type 0 where
  pub table : IsTable n s
  pub done : (p q : ℕ) → p < i → q < n → cell n s p q ≡ m p q

pub load-end : (m : MatrixView) (n i : ℕ) (s : List Ext) → n ≡ m.vars + m.vars → n ≤ i → LoadRows n i (bound_at m) s → (p q : ℕ) → cell n s p q ≡ bound_at m p q
load-end m n i s size l h p q = inside-or m.vars p q
    (λ a b. h.done p q (omega arith) (omega arith))
    (λ o. cell-out n s p q (λ a b. o (omega arith) (omega arith)) ∙ sym (entry-out m.vars m.kept p q o))

-- ---- one lowering

module _ (i j : ℕ) (b : Ext) (w u : ℕ → ℕ → Ext) (l : LowersTo i j b w u) where
  pub at-places : (P : ℕ → ℕ → Type 0) → P i j → P (bar j) (bar i) → ((p q : ℕ) → u p q ≡ w p q → P p q) → (p q : ℕ) → P p q
  at-places P here there same p q = nat-either p i (λ d. nat-either q j (λ e. subst (λ (p : ℕ). P p q) (sym d) (subst (λ (q : ℕ). P i q) (sym e) here)) (λ e. second (λ _ k. e k))) (λ d. second (λ k _. d k))
    where
      second : (p ≡ i → q ≡ j → ⊥) → P p q
      second far = nat-either p (bar j) (λ d. nat-either q (bar i) (λ e. subst (λ (p : ℕ). P p q) (sym d) (subst (λ (q : ℕ). P (bar j) q) (sym e) there)) (λ e. same p q (l.others p q far (λ _ k. e k)))) (λ d. same p q (l.others p q far (λ k _. d k)))

  new-range : AllInRange w → InRange (lesser (w i j) (cut b))
  new-range range = lesser-range (w i j) (cut b) (range.range i j) (cut-range b)

  pub lowering-range : AllInRange w → AllInRange u
  lowering-range range = record { range = at-places (λ p q. InRange (u p q)) (subst InRange (sym l.here) (new-range range)) (subst InRange (sym l.mirror) (new-range range)) (λ p q e. subst InRange (sym e) (range.range p q)) }

  pub lowering-lower : w (bar j) (bar i) ≡ w i j → Lowered w u
  lowering-lower m = record {
    lower = at-places (λ p q. (x : ℤ) → IsUpTo (w p q) x → IsUpTo (u p q) x)
        (λ x h. subst (λ (e : Ext). IsUpTo e x) (sym l.here) (lesser-lowers (w i j) (cut b) x (cut-range b) h))
        (λ x h. subst (λ (e : Ext). IsUpTo e x) (sym l.mirror) (lesser-lowers (w i j) (cut b) x (cut-range b) (subst (λ (e : Ext). IsUpTo e x) m h)))
        (λ p q e x h. subst (λ (e : Ext). IsUpTo e x) (sym e) h);
  }

  pub lowering-takes : AllInRange w → InRange b → (x : ℤ) → IsUpTo b x → IsUpTo (u i j) x
  lowering-takes range r x h = subst (λ (e : Ext). IsUpTo e x) (sym l.here) (lesser-takes (w i j) (cut b) x (range.range i j) (subst (λ (e : Ext). IsUpTo e x) (sym (cut-same b r)) h))

  pub lowering-meets : (v : ℕ → ℤ) → IsSigned v → Meets v w → Above b (v j +ℤ neg_ℤ (v i)) → Meets v u
  lowering-meets v k m a = record { meets = at-places (λ p q. Above (u p q) (v q +ℤ neg_ℤ (v p))) (subst (λ (e : Ext). Above e (v j +ℤ neg_ℤ (v i))) (sym l.here) new) (subst (λ (e : Ext). Above e (v (bar i) +ℤ neg_ℤ (v (bar j)))) (sym l.mirror) (subst (λ (x : ℤ). Above (lesser (w i j) (cut b)) x) (sym turn) new)) (λ p q e. subst (λ (e : Ext). Above e (v q +ℤ neg_ℤ (v p))) (sym e) (m.meets p q)) }
    where
      new : Above (lesser (w i j) (cut b)) (v j +ℤ neg_ℤ (v i))
      new = lesser-above (w i j) (cut b) _ (m.meets i j) (cut-above b _ a)

      turn : v (bar i) +ℤ neg_ℤ (v (bar j)) ≡ v j +ℤ neg_ℤ (v i)
      turn = let ei = k.signed i in let ej = k.signed j in omega (arith, ints)

  pub lowering-above : (f : ℕ → ℕ → Ext) → ((p q : ℕ) → f (bar q) (bar p) ≡ f p q) → Lowered w f → InRange b → ((x : ℤ) → IsUpTo b x → IsUpTo (f i j) x) → Lowered u f
  lowering-above f m g r t = record {
    lower = at-places (λ p q. (x : ℤ) → IsUpTo (u p q) x → IsUpTo (f p q) x)
        (λ x h. new x (subst (λ (e : Ext). IsUpTo e x) l.here h))
        (λ x h. subst (λ (e : Ext). IsUpTo e x) (sym (m i j)) (new x (subst (λ (e : Ext). IsUpTo e x) l.mirror h)))
        (λ p q e x h. g.lower p q x (subst (λ (e : Ext). IsUpTo e x) e h));
  }
    where
      new : (x : ℤ) → IsUpTo (lesser (w i j) (cut b)) x → IsUpTo (f i j) x
      new x h = lesser-of (w i j) (cut b) x h (λ a. g.lower i j x a) (λ a. t x (subst (λ (e : Ext). IsUpTo e x) (cut-same b r) a))

-- ---- storing

pub row-stored-step : (i j : ℕ) (f m w u : ℕ → ℕ → Ext) (b : Ext) → b ≡ f i j → InRange (f i j) → w (bar j) (bar i) ≡ w i j → RowStored i j f m w → LowersTo i j b w u → RowStored i (j + 1) f m u
row-stored-step i j f m w u b e r c s l = record {
  row = λ q g x h. nat-either q j
      (λ d. subst (λ (q : ℕ). IsUpTo (u i q) x) (sym d) (lowering-takes i j b w u l s.range inside x (subst (λ (a : Ext). IsUpTo a x) (sym e) (subst (λ (q : ℕ). IsUpTo (f i q) x) d h))))
      (λ d. lower.lower i q x (s.row q (omega arith) x h));
  range = lowering-range i j b w u l s.range;
  lower = record { lower = λ p q x h. lower.lower p q x (s.lower.lower p q x h) };
  sound = λ v k h g. lowering-meets i j b w u l v k (s.sound v k h g) (subst (λ (a : Ext). Above a (v j +ℤ neg_ℤ (v i))) (sym e) (g.meets i j));
  above = λ o h. lowering-above i j b w u l f o (s.above o h) inside (λ x a. subst (λ (a : Ext). IsUpTo a x) e a);
}
  where
    inside : InRange b
    inside = subst InRange (sym e) r

    lower : Lowered w u
    lower = lowering-lower i j b w u l c

pub stored-step : (i : ℕ) (f m w u : ℕ → ℕ → Ext) → Stored i f m w → RowStored i (reach i) f w u → Stored (i + 1) f m u
stored-step i f m w u s r = record {
  rows = λ p q l g x h. nat-either p i
      (λ d. subst (λ (p : ℕ). IsUpTo (u p q) x) (sym d) (r.row q (subst (λ (p : ℕ). q < reach p) d g) x (subst (λ (p : ℕ). IsUpTo (f p q) x) d h)))
      (λ d. r.lower.lower p q x (s.rows p q (omega arith) g x h));
  range = r.range;
  lower = record { lower = λ p q x h. r.lower.lower p q x (s.lower.lower p q x h) };
  sound = λ v k h g. r.sound v k (s.sound v k h g) g;
  above = λ o h. r.above o (s.above o h);
}

-- what a coherent table without higher bounds leaves is the table
pub stored-same : (n v : ℕ) (t : List Ext) (m w : ℕ → ℕ → Ext) → n ≡ v + v → AllInRange (cell n t) → ((p q : ℕ) → cell n t (bar q) (bar p) ≡ cell n t p q) → ((p q : ℕ) → w (bar q) (bar p) ≡ w p q) → Lowered m (cell n t) → Stored n (cell n t) m w → (p q : ℕ) → w p q ≡ cell n t p q
stored-same n v t m w size r o c low s p q = same-bounds (w p q) (cell n t p q) (s.range.range p q) (r.range p q) (λ x h. (s.above o low).lower p q x h) from
  where
    from : (x : ℤ) → IsUpTo (cell n t p q) x → IsUpTo (w p q) x
    from x h = nat-less_or p n
        (λ a. nat-less_or q n
        (λ b. nat-less_or q (reach p)
        (λ g. s.rows p q a g x h)
        (λ g. subst (λ (e : Ext). IsUpTo e x) (c p q) (s.rows (bar q) (bar p) (let k = bar-less v q (omega arith) in omega arith) (other-side p q g) x (subst (λ (e : Ext). IsUpTo e x) (sym (o p q)) h))))
        (λ b. absurd (subst (λ (e : Ext). IsUpTo e x) (cell-out n t p q (λ _ k. absurd (omega arith))) h)))
        (λ a. absurd (subst (λ (e : Ext). IsUpTo e x) (cell-out n t p q (λ k _. absurd (omega arith))) h))
