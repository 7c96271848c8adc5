-- Points through changes of bounds, and bounds that are raised to others.
use Rattle.std.proofs.Common.{inl, inr, ℕ, ℤ, pos, neg_ℤ, List, Option, Bool, true, false, cond, ◌^◌, ◌≤ℤ◌, ◌≡◌, ◌<◌, ◌≤◌, ◌+◌, ◌*◌, ◌+ℤ◌, refl, ap, sym, subst, ◌∙◌, arith}
use Rattle.std.specs.Prelude.{◌⊎◌}
use Rattle.std.specs.Int.{int_max}
use Rattle.std.specs.Int.RustNames.{int_le}
use Rattle.std.proofs.lemmas.Int.{ints}
use Rattle.ext_int.specs.Ext.{Above, AtMost, greater}
use Rattle.ext_int.specs.declared.Ext.{Ext}
use Rattle.ext_int.specs.declared.Ext.TheVariants.{Low, Fin, High}
use Rattle.ext_int.proofs.Ends.{AtMost_refl, AtMost_trans, AtMost-from_above, Above-from_at_most, greater_first, greater_second, lesser_first}
use Rattle.bound_matrix.specs.Bound.{MatrixView, bound_at, bar, cut, InRange, LowersTo, RaisesTo}
use Rattle.bound_matrix.specs.Points.{signed, IsPoint}
use Rattle.bound_matrix.proofs.Places.{nat-either, nat-less_or, entry-out, inside-or, bound-mirror}
use Rattle.bound_matrix.proofs.Entries.{cut-same}
use Rattle.bound_matrix.proofs.Promises.{signed-opposite}
use Rattle.bound_matrix.proofs.Storing.{lowering-meets, at-places}
use Rattle.octagons_bounds.specs.Passes.{RaisedTo, RowsRaisedTo}
use Rattle.octagons_sources.specs.Seen.{seen, AllSeen}
use Rattle.octagons_sources.proofs.Reading.{either}
use Rattle.octagons_sources.proofs.SeenBounds.{seen-above}

-- a bound that holds of a point keeps it
pub lowered-point : (v : List ℤ) (m w : MatrixView) (i j : ℕ) (b : Ext) → LowersTo i j b (bound_at m) (bound_at w) → IsPoint v m → Above b (signed v j +ℤ neg_ℤ (signed v i)) → IsPoint v w
lowered-point v m w i j b l h a = lowering-meets i j b (bound_at m) (bound_at w) l (signed v) (signed-opposite v) h a

pub above-up : (a b : Ext) (x : ℤ) → AtMost a b → Above a x → Above b x
above-up a b x l h = Above-from_at_most b x (AtMost_trans (Fin x) a b (AtMost-from_above a x h) l)

-- ---- raised bounds

module _ (i j : ℕ) (b : Ext) (w u : ℕ → ℕ → Ext) (l : RaisesTo i j b w u) where
  pub raised-places : (P : ℕ → ℕ → Type 0) → P i j → P (bar j) (bar i) → ((p q : ℕ) → u p q ≡ w p q → P p q) → (p q : ℕ) → P p q
  raised-places P here there same p q = nat-either p i (λ d. nat-either q j (λ e. subst (λ (p : ℕ). P p q) (sym d) (subst (λ (q : ℕ). P i q) (sym e) here)) (λ e. second (λ _ k. e k))) (λ d. second (λ k _. d k))
    where
      second : (p ≡ i → q ≡ j → ⊥) → P p q
      second far = nat-either p (bar j) (λ d. nat-either q (bar i) (λ e. subst (λ (p : ℕ). P p q) (sym d) (subst (λ (q : ℕ). P (bar j) q) (sym e) there)) (λ e. same p q (l.others p q far (λ _ k. e k)))) (λ d. same p q (l.others p q far (λ k _. d k)))

-- ---- bounds that were raised to others

module _ (i j : ℕ) (b : Ext) (w u : ℕ → ℕ → Ext) (l : RaisesTo i j b w u) (coherent : w (bar j) (bar i) ≡ w i j) where
  pub raising-up : (p q : ℕ) → AtMost (w p q) (u p q)
  raising-up = raised-places i j b w u l (λ p q. AtMost (w p q) (u p q))
      (subst (AtMost (w i j)) (sym l.here) (greater_first (w i j) (cut b)))
      (subst (λ (e : Ext). AtMost e (u (bar j) (bar i))) (sym coherent) (subst (AtMost (w i j)) (sym l.mirror) (greater_first (w i j) (cut b))))
      (λ p q e. subst (AtMost (w p q)) (sym e) (AtMost_refl (w p q)))

  pub raising-here : InRange b → AtMost b (u i j)
  raising-here r = subst (AtMost b) (sym l.here) (subst (λ (c : Ext). AtMost b (greater (w i j) c)) (sym (cut-same b r)) (greater_second (w i j) b))

pub raised-to-step : (i j : ℕ) (m o w u : ℕ → ℕ → Ext) (b : Ext) → RaisesTo i j b w u → w (bar j) (bar i) ≡ w i j → b ≡ o i j → InRange b → RaisedTo i j m o w → RaisedTo i (j + 1) m o u
raised-to-step i j m o w u b l c e r d = record {
  up = λ p q. AtMost_trans (m p q) (w p q) (u p q) (d.up p q) (raising-up i j b w u l c p q);
  over = λ p q x y. nat-either q j
      (λ z. rw (x, z) (subst (λ (t : Ext). AtMost t (u i j)) e (raising-here i j b w u l c r)))
      (λ z. AtMost_trans (o p q) (w p q) (u p q) (d.over p q x (omega arith)) (raising-up i j b w u l c p q));
}

pub rows-raised-step : (i n : ℕ) (m o w u : ℕ → ℕ → Ext) → ((p q : ℕ) → AtMost (w p q) (u p q)) → ((q : ℕ) → q < n → AtMost (o i q) (u i q)) → RowsRaisedTo i n m o w → RowsRaisedTo (i + 1) n m o u
rows-raised-step i n m o w u up over d = record {
  up = λ p q. AtMost_trans (m p q) (w p q) (u p q) (d.up p q) (up p q);
  over = λ p q x y. nat-either p i
      (λ z. rw z (over q y))
      (λ z. AtMost_trans (o p q) (w p q) (u p q) (d.over p q (omega arith) y) (up p q));
}

-- at the end all bounds are above the others: there is none outside
pub all-over : (i n : ℕ) (m : ℕ → ℕ → Ext) (o : ℕ → ℕ → Ext) (w : MatrixView) → RowsRaisedTo i n m o (bound_at w) → n ≡ 2 * w.vars → n ≤ i → (p q : ℕ) → AtMost (o p q) (bound_at w p q)
all-over i n m o w d e l p q = nat-less_or p n
    (λ x. nat-less_or q n (λ y. d.over p q (omega arith) y) (λ y. out (λ a b. omega arith)))
    (λ x. out (λ a b. omega arith))
  where
    top : (a : Ext) → AtMost a High
    top Low = tt
    top (Fin x) = tt
    top High = tt

    out : (p < w.vars + w.vars → q < w.vars + w.vars → ⊥) → AtMost (o p q) (bound_at w p q)
    out f = subst (AtMost (o p q)) (sym (entry-out w.vars w.kept p q f)) (top (o p q))

pub points-up : (a : List ℤ) (m w : MatrixView) → ((p q : ℕ) → AtMost (bound_at m p q) (bound_at w p q)) → IsPoint a m → IsPoint a w
points-up a m w up h = record { meets = λ p q. above-up (bound_at m p q) (bound_at w p q) _ (up p q) (h.meets p q) }

pub no-bounds : (a : List ℤ) (m : MatrixView) → ((i j : ℕ) → bound_at m i j ≡ High) → IsPoint a m
no-bounds a m f = record { meets = λ p q. subst (λ (b : Ext). Above b (signed a q +ℤ neg_ℤ (signed a p))) (sym (f p q)) tt }

-- lowering raises no bound
pub lowered-under : (m u : MatrixView) (i j : ℕ) (b : Ext) → LowersTo i j b (bound_at m) (bound_at u) → (p q : ℕ) → AtMost (bound_at u p q) (bound_at m p q)
lowered-under m u i j b l = at-places i j b (bound_at m) (bound_at u) l (λ p q. AtMost (bound_at u p q) (bound_at m p q))
    (subst (λ (e : Ext). AtMost e (bound_at m i j)) (sym l.here) (lesser_first (bound_at m i j) (cut b)))
    (subst (λ (e : Ext). AtMost (bound_at u (bar j) (bar i)) e) (bound-mirror m i j) (subst (λ (e : Ext). AtMost e (bound_at m i j)) (sym l.mirror) (lesser_first (bound_at m i j) (cut b))))
    (λ p q s. subst (λ (e : Ext). AtMost e (bound_at m p q)) (sym s) (AtMost_refl (bound_at m p q)))

-- bounds that are at or above what is seen hold where that holds
pub seen-points : (places : List (Option ℕ)) (m u : MatrixView) (v w : List ℤ) → ((p q : ℕ) → AtMost (seen places (bound_at m) p q) (bound_at u p q)) → IsPoint v m → AllSeen places u.vars v w → IsPoint w u
seen-points places m u v w over h all = record {
  meets = λ p q. inside-or u.vars p q
      (λ a b. above-up (seen places (bound_at m) p q) (bound_at u p q) _ (over p q) (seen-above places m u.vars p q v w h all (omega arith) (omega arith)))
      (λ f. subst (λ (b : Ext). Above b (signed w q +ℤ neg_ℤ (signed w p))) (sym (entry-out u.vars u.kept p q f)) tt);
}

-- a bound that was at or below the new one is at or below what a matrix keeps of that
pub at_most-cut : (a b : Ext) → InRange a → AtMost a b → AtMost a (cut b)
at_most-cut Low b r h = absurd r
at_most-cut (Fin x) Low r h = absurd h
at_most-cut (Fin x) (Fin y) r h = elim (int_le y (pos (2 ^ 100))) as (λ t. AtMost (Fin x) (cond t (Fin (int_max y (neg_ℤ (pos (2 ^ 100))))) High)) [ true ↦ under x y h | false ↦ tt ]
  where
    under : (x y : ℤ) → x ≤ℤ y → x ≤ℤ int_max y (neg_ℤ (pos (2 ^ 100)))
    under x y l = grind (arith, ints)
at_most-cut (Fin x) High r h = tt
at_most-cut High Low r h = absurd h
at_most-cut High (Fin y) r h = absurd h
at_most-cut High High r h = tt
