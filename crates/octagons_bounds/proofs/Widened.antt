-- Bounds that are widened, and their weight.
use Rattle.std.proofs.Common.{inl, inr, ℕ, ℤ, zero, suc, List, Option, None, Some, ◌≡◌, ◌<◌, ◌≤◌, ◌+◌, ◌*◌, ◌<ℤ◌, refl, ap, sym, subst, ◌∙◌, arith, true, false, Bool, cond}
use Rattle.std.specs.Prelude.{◌⊎◌, ◌&&◌}
use Rattle.std.proofs.lemmas.Int.{ints}
use Rattle.std.specs.Int.RustNames.{int_le}
use Rattle.num_api.specs.Steps.{least, steps_above}
use Rattle.num_api.proofs.WeightLemmas.{least-ge, above-falls}
use Rattle.ext_int.specs.Ext.{AtMost, greater}
use Rattle.ext_int.specs.declared.Ext.{Ext}
use Rattle.ext_int.specs.declared.Ext.TheVariants.{Low, Fin, High}
use Rattle.ext_int.proofs.Ends.{AtMost_refl, AtMost_trans, AtMost_antisymm, greater_second, greater_least}
use Rattle.num_api.specs.Weight.{weight_above}
use Rattle.bound_matrix.specs.Bound.{MatrixView, bound_at, bar, cut, InRange, AllInRange, RaisesTo}
use Rattle.bound_matrix.proofs.Entries.{cut-same}
use Rattle.bound_matrix.proofs.Places.{bound-mirror, nat-either}
use Rattle.octagons_bounds.specs.Passes.{is_at_most, step_or, step_above, raised, IsRaised, row_covers, all_cover, row_weight, all_weight, WidenedRow, WidenedRows}
use Rattle.octagons_sources.proofs.Reading.{either}
use Rattle.octagons_bounds.proofs.Raising.{raised-places, all-over}

pub AtMost-true : (a b : Ext) → is_at_most a b ≡ true → AtMost a b
AtMost-true Low b h = tt
AtMost-true (Fin x) Low h = cc
AtMost-true (Fin x) (Fin y) h = grind (arith, ints)
AtMost-true (Fin x) High h = tt
AtMost-true High Low h = cc
AtMost-true High (Fin y) h = cc
AtMost-true High High h = tt

pub true-AtMost : (a b : Ext) → AtMost a b → is_at_most a b ≡ true
true-AtMost Low b h = refl
true-AtMost (Fin x) Low h = absurd h
true-AtMost (Fin x) (Fin y) h = grind (arith, ints)
true-AtMost (Fin x) High h = refl
true-AtMost High Low h = absurd h
true-AtMost High (Fin y) h = absurd h
true-AtMost High High h = refl

not_at_most : (a b : Ext) → is_at_most a b ≡ false → AtMost b a
not_at_most Low b e = cc
not_at_most (Fin x) Low e = tt
not_at_most (Fin x) (Fin y) e = grind (arith, ints)
not_at_most (Fin x) High e = cc
not_at_most High Low e = tt
not_at_most High (Fin y) e = tt
not_at_most High High e = cc

pub next_up : (xs : List ℤ) (next : Ext) → AtMost next (step_above xs next)
next_up xs Low = tt
next_up xs (Fin n) = by_step (least xs n) refl
  where
    by_step : (o : Option ℤ) → least xs n ≡ o → AtMost (Fin n) (step_or o)
    by_step None e = tt
    by_step (Some s) e = least-ge xs n s e
next_up xs High = tt

by_raised : (P : Ext → Type 0) (xs : List ℤ) (old next : Ext) → (is_at_most next old ≡ true → P old) → (is_at_most next old ≡ false → P (step_above xs next)) → P (raised xs old next)
by_raised P xs old next stays goes = go (is_at_most next old) refl
  where
    go : (b : Bool) → is_at_most next old ≡ b → P (cond b old (step_above xs next))
    go true e = stays e
    go false e = goes e

pub raised-next : (xs : List ℤ) (old next : Ext) → AtMost next (raised xs old next)
raised-next xs old next = by_raised (AtMost next) xs old next (λ e. AtMost-true next old e) (λ e. next_up xs next)

pub raised-old : (xs : List ℤ) (old next : Ext) → AtMost old (raised xs old next)
raised-old xs old next = by_raised (AtMost old) xs old next
    (λ e. AtMost_refl old)
    (λ e. AtMost_trans old next (step_above xs next) (not_at_most next old e) (next_up xs next))

raised-step : (xs : List ℤ) (old next : Ext) → is_at_most next old ≡ false → raised xs old next ≡ step_above xs next
raised-step xs old next e = ap (λ (b : Bool). cond b old (step_above xs next)) e

raised-stays : (xs : List ℤ) (old next : Ext) → is_at_most next old ≡ true → raised xs old next ≡ old
raised-stays xs old next e = ap (λ (b : Bool). cond b old (step_above xs next)) e

-- widening again by the same bound changes nothing
pub raised-twice : (xs : List ℤ) (old next : Ext) → raised xs (raised xs old next) next ≡ raised xs old next
raised-twice xs old next = raised-stays xs (raised xs old next) next (true-AtMost next (raised xs old next) (raised-next xs old next))

greater-second : (a b : Ext) → AtMost a b → greater a b ≡ b
greater-second a b h = AtMost_antisymm (greater a b) b (greater_least b a b h (AtMost_refl b)) (greater_second a b)

-- ---- one bound

module _ (xs : List ℤ) (i j : ℕ) (b : Ext) (m : MatrixView) (o : ℕ → ℕ → Ext) (u : MatrixView) (mirror : o i j ≡ o (bar j) (bar i)) (l : RaisesTo i j b (bound_at m) (bound_at u)) (e : b ≡ step_above xs (o i j)) (range : InRange b) where
  pub widen-over : AtMost (o i j) (bound_at u i j)
  widen-over = subst (AtMost (o i j)) (sym l.here) (AtMost_trans (o i j) b (greater (bound_at m i j) (cut b))
      (subst (AtMost (o i j)) (sym e) (next_up xs (o i j)))
      (subst (λ (c : Ext). AtMost b (greater (bound_at m i j) c)) (sym (cut-same b range)) (greater_second (bound_at m i j) b)))

  pub widen-each : is_at_most (o i j) (bound_at m i j) ≡ false → IsRaised xs (bound_at m) o (bound_at u)
  widen-each f = record {
    each = raised-places i j b (bound_at m) (bound_at u) l (λ p q. (bound_at u p q ≡ bound_at m p q) ⊎ (bound_at u p q ≡ raised xs (bound_at m p q) (o p q)))
        (inr (l.here ∙ goes))
        (inr (l.mirror ∙ (goes ∙ (ap (λ (x : Ext). raised xs x (o i j)) (bound-mirror m i j) ∙ ap (raised xs (bound_at m (bar j) (bar i))) (mirror)))))
        (λ p q s. inl s);
  }
    where
      up : AtMost (bound_at m i j) b
      up = AtMost_trans (bound_at m i j) (o i j) b (not_at_most (o i j) (bound_at m i j) f) (subst (AtMost (o i j)) (sym e) (next_up xs (o i j)))

      goes : greater (bound_at m i j) (cut b) ≡ raised xs (bound_at m i j) (o i j)
      goes = ap (greater (bound_at m i j)) (cut-same b range) ∙ (greater-second (bound_at m i j) b up ∙ (e ∙ sym (raised-step xs (bound_at m i j) (o i j) f)))

-- two passes by the same bounds are one
pub raised-again : (xs : List ℤ) (m o w u : ℕ → ℕ → Ext) → IsRaised xs m o w → IsRaised xs w o u → IsRaised xs m o u
raised-again xs m o w u d f = record {
  each = λ p q. either (f.each p q)
      (λ s. either (d.each p q) (λ t. inl (s ∙ t)) (λ t. inr (s ∙ t)))
      (λ s. either (d.each p q)
      (λ t. inr (s ∙ ap (λ (x : Ext). raised xs x (o p q)) t))
      (λ t. inr (s ∙ (ap (λ (x : Ext). raised xs x (o p q)) t ∙ raised-twice xs (m p q) (o p q)))));
}

pub raised-up : (xs : List ℤ) (m o w : ℕ → ℕ → Ext) → IsRaised xs m o w → (p q : ℕ) → AtMost (m p q) (w p q)
raised-up xs m o w d p q = either (d.each p q) (λ s. subst (AtMost (m p q)) (sym s) (AtMost_refl (m p q))) (λ s. subst (AtMost (m p q)) (sym s) (raised-old xs (m p q) (o p q)))

-- ---- weights

step_falls : (xs : List ℤ) (old next : Ext) → (old ≡ Low → ⊥) → is_at_most next old ≡ false → weight_above xs (step_above xs next) < weight_above xs old
step_falls xs Low next not_low e = absurd (not_low refl)
step_falls xs (Fin k) Low not_low e = cc
step_falls xs (Fin k) (Fin n) not_low e = by_step (least xs n) refl
  where
    over : (k n : ℤ) → int_le n k ≡ false → k <ℤ n
    over k n e = grind (arith, ints)

    by_step : (o : Option ℤ) → least xs n ≡ o → weight_above xs (step_or o) < steps_above xs k + 1
    by_step None is = omega arith
    by_step (Some s) is = let fewer = above-falls xs k n s is (over k n e) in omega arith
step_falls xs (Fin k) High not_low e = omega arith
step_falls xs High Low not_low e = cc
step_falls xs High (Fin n) not_low e = cc
step_falls xs High High not_low e = cc

not-low : (e : Ext) → InRange e → e ≡ Low → ⊥
not-low Low r d = r
not-low (Fin x) r d = cc
not-low High r d = cc

no_rise : (xs : List ℤ) (old next new : Ext) → InRange old → (new ≡ old) ⊎ (new ≡ raised xs old next) → weight_above xs new ≤ weight_above xs old
no_rise xs old next new r s = either s
    (λ e. rw e (omega arith))
    (λ e. rw e (by_raised (λ x. weight_above xs x ≤ weight_above xs old) xs old next (λ f. omega arith) (λ f. let less = step_falls xs old next (not-low old r) f in omega arith)))

falls : (xs : List ℤ) (old next new : Ext) → InRange old → (new ≡ old) ⊎ (new ≡ raised xs old next) → AtMost next new → is_at_most next old ≡ false → weight_above xs new < weight_above xs old
falls xs old next new r s over f = either s
    (λ e. let t : is_at_most next old ≡ true = true-AtMost next old (subst (AtMost next) e over) in let no : true ≡ false = sym t ∙ f in cc)
    (λ e. rw (e, raised-step xs old next f) (step_falls xs old next (not-low old r) f))

-- ---- passes

pub widened-row-step : (xs : List ℤ) (i j : ℕ) (m o w u : ℕ → ℕ → Ext) → IsRaised xs w o u → AtMost (o i j) (u i j) → WidenedRow xs i j m o w → WidenedRow xs i (j + 1) m o u
widened-row-step xs i j m o w u f here d = record {
  each = raised-again xs m o w u d.each f;
  over = λ p q x y. nat-either q j
      (λ z. rw (x, z) here)
      (λ z. AtMost_trans (o p q) (w p q) (u p q) (d.over p q x (omega arith)) (raised-up xs w o u f p q));
}

pub widened-rows-step : (xs : List ℤ) (i n : ℕ) (m o w u : ℕ → ℕ → Ext) → IsRaised xs w o u → ((q : ℕ) → q < n → AtMost (o i q) (u i q)) → WidenedRows xs i n m o w → WidenedRows xs (i + 1) n m o u
widened-rows-step xs i n m o w u f here d = record {
  each = raised-again xs m o w u d.each f;
  over = λ p q x y. nat-either p i
      (λ z. rw z (here q y))
      (λ z. AtMost_trans (o p q) (w p q) (u p q) (d.over p q (omega arith) y) (raised-up xs w o u f p q));
}

pub widened-first : (xs : List ℤ) (m o : ℕ → ℕ → Ext) → IsRaised xs m o m
widened-first xs m o = record { each = λ p q. inl refl }

pub widened-all : (xs : List ℤ) (i n : ℕ) (m o : ℕ → ℕ → Ext) (w : MatrixView) → WidenedRows xs i n m o (bound_at w) → n ≡ 2 * w.vars → n ≤ i → (p q : ℕ) → AtMost (o p q) (bound_at w p q)
widened-all xs i n m o w d e l = all-over i n m o w (record { up = raised-up xs m o (bound_at w) d.each; over = d.over }) e l

-- ---- sums of weights

module _ (xs : List ℤ) (f g h : ℕ → Ext) (range : (q : ℕ) → InRange (f q)) (each : (q : ℕ) → (h q ≡ f q) ⊎ (h q ≡ raised xs (f q) (g q))) (over : (q : ℕ) → AtMost (g q) (h q)) where
  pub row-no_rise : (n : ℕ) → row_weight xs n h ≤ row_weight xs n f
  row-no_rise zero = omega arith
  row-no_rise (suc n) = let a = row-no_rise n in let b = no_rise xs (f n) (g n) (h n) (range n) (each n) in omega arith

  pub row-falls : (n : ℕ) → row_covers n f g ≡ false → row_weight xs n h < row_weight xs n f
  row-falls zero e = cc
  row-falls (suc n) e = by (row-falls n) (row_covers n f g) refl e
    where
      by : (row_covers n f g ≡ false → row_weight xs n h < row_weight xs n f) → (b : Bool) → row_covers n f g ≡ b → (b && is_at_most (g n) (f n)) ≡ false → row_weight xs (suc n) h < row_weight xs (suc n) f
      by rest false is e = let a = rest is in let b = no_rise xs (f n) (g n) (h n) (range n) (each n) in omega arith
      by rest true is e = let a = row-no_rise n in let b = falls xs (f n) (g n) (h n) (range n) (each n) (over n) e in omega arith

module _ (xs : List ℤ) (n : ℕ) (f g h : ℕ → ℕ → Ext) (range : AllInRange f) (each : IsRaised xs f g h) (over : (p q : ℕ) → AtMost (g p q) (h p q)) where
  pub all-no_rise : (r : ℕ) → all_weight xs r n h ≤ all_weight xs r n f
  all-no_rise zero = omega arith
  all-no_rise (suc r) = let a = all-no_rise r in let b = row-no_rise xs (f r) (g r) (h r) (range.range r) (each.each r) (over r) n in omega arith

  pub all-falls : (r : ℕ) → all_cover r n f g ≡ false → all_weight xs r n h < all_weight xs r n f
  all-falls zero e = cc
  all-falls (suc r) e = by (all-falls r) (all_cover r n f g) refl e
    where
      by : (all_cover r n f g ≡ false → all_weight xs r n h < all_weight xs r n f) → (b : Bool) → all_cover r n f g ≡ b → (b && row_covers n (f r) (g r)) ≡ false → all_weight xs (suc r) n h < all_weight xs (suc r) n f
      by rest false is e = let a = rest is in let b = row-no_rise xs (f r) (g r) (h r) (range.range r) (each.each r) (over r) n in omega arith
      by rest true is e = let a = all-no_rise r in let b = row-falls xs (f r) (g r) (h r) (range.range r) (each.each r) (over r) n e in omega arith

-- where all bounds are covered, points are
and-left : (a b : Bool) → (a && b) ≡ true → a ≡ true
and-left true b e = refl
and-left false b e = e

and-right : (a b : Bool) → (a && b) ≡ true → b ≡ true
and-right true b e = e
and-right false b e = cc

row-covered : (n : ℕ) (f g : ℕ → Ext) → row_covers n f g ≡ true → (q : ℕ) → q < n → AtMost (g q) (f q)
row-covered zero f g e q l = absurd (omega arith)
row-covered (suc n) f g e q l = nat-either q n
    (λ z. rw z (AtMost-true (g n) (f n) (and-right (row_covers n f g) (is_at_most (g n) (f n)) e)))
    (λ z. row-covered n f g (and-left (row_covers n f g) (is_at_most (g n) (f n)) e) q (omega arith))

rows-covered : (r n : ℕ) (f g : ℕ → ℕ → Ext) → all_cover r n f g ≡ true → (p q : ℕ) → p < r → q < n → AtMost (g p q) (f p q)
rows-covered zero n f g e p q k l = absurd (omega arith)
rows-covered (suc r) n f g e p q k l = nat-either p r
    (λ z. rw z (row-covered n (f r) (g r) (and-right (all_cover r n f g) (row_covers n (f r) (g r)) e) q l))
    (λ z. rows-covered r n f g (and-left (all_cover r n f g) (row_covers n (f r) (g r)) e) p q (omega arith) l)

pub covered-over : (n : ℕ) (m : MatrixView) (o : ℕ → ℕ → Ext) → n ≡ 2 * m.vars → all_cover n n (bound_at m) o ≡ true → (p q : ℕ) → AtMost (o p q) (bound_at m p q)
covered-over n m o e c = all-over n n (bound_at m) o m (record { up = λ p q. AtMost_refl (bound_at m p q); over = rows-covered n n (bound_at m) o c }) e (omega arith)
