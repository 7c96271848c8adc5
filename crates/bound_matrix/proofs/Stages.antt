-- The loops of a stage.
use Rattle.std.specs.Prelude.{ℕ, ℤ, pos, neg_ℤ, ◌≡◌, ◌<◌, ◌≤◌, ◌+◌, ◌+ℤ◌, ◌≤ℤ◌, List, ◌⊎◌}
use Rattle.std.proofs.Common.{arith, sym, subst, refl, ◌∙◌, inl, inr}
use Rattle.std.proofs.lemmas.Int.{ints}
use Rattle.ext_int.specs.declared.Ext.{Ext}
use Rattle.ext_int.specs.declared.Ext.TheVariants.{High}
use Rattle.bound_matrix.specs.Entry.{Near, Relaxed, Staged, kept, better}
use Rattle.bound_matrix.specs.Cells.{cell, IsTable, SameBut, NearAt, Lowered, RowStaged, PivotUp}
use Rattle.bound_matrix.proofs.Tables.{cell-out}
use Rattle.ext_int.specs.Ext.{Above}
use Rattle.bound_matrix.specs.Bound.{AllInRange, InRange}
use Rattle.bound_matrix.proofs.Places.{nat-either, nat-less_or}
use Rattle.bound_matrix.specs.Points.{IsUpTo, Meets}

-- the row of i up to j
pub record RowSoFar (k i j : ℕ) (m w : ℕ → ℕ → Ext) : Type 0 where
  pub range : AllInRange w
  pub done : NearAt m k → (q : ℕ) → q < j → Staged m w k i q
  pub left : (q : ℕ) → j ≤ q → w i q ≡ m i q
  pub others : (p q : ℕ) → (p ≡ i → ⊥) → w p q ≡ m p q
  pub lower : Lowered m w
  pub sound : (v : ℕ → ℤ) → Meets v m → Meets v w

pub row-start : (k i : ℕ) (m : ℕ → ℕ → Ext) → AllInRange m → RowSoFar k i 0 m m
row-start k i m r = record {
  range = r;
  done = λ _ q h. absurd (omega arith);
  left = λ q _. refl;
  others = λ p q _. refl;
  lower = record { lower = λ p q x h. h };
  sound = λ v h. h;
}

-- what relax promises
pub record IsRelax (a b e f : Ext) : Type 0 where
  pub range : InRange f
  pub lower : (x : ℤ) → IsUpTo e x → IsUpTo f x
  pub sound : (w y z : ℤ) → Above a y → Above b z → Above e w → w ≤ℤ (y +ℤ z) → Above f w
  pub exact : Near a → Near b → Relaxed a b e f

module _ (k i j : ℕ) (m w u : ℕ → ℕ → Ext) (s : RowSoFar k i j m w) (f : IsRelax (m i k) (w k j) (w i j) (u i j)) (o : SameBut i j w u) where
  pivot-left : w k j ≡ m k j
  pivot-left = nat-either k i (λ e. subst (λ (p : ℕ). w p j ≡ m p j) (sym e) (s.left j (omega arith))) (λ d. s.others k j d)

  place-left : w i j ≡ m i j
  place-left = s.left j (omega arith)

  at-place : (P : ℕ → ℕ → Type 0) → P i j → ((p q : ℕ) → u p q ≡ w p q → P p q) → (p q : ℕ) → P p q
  at-place P h g p q = nat-either p i (λ e. nat-either q j (λ d. subst (λ (p : ℕ). P p q) (sym e) (subst (λ (q : ℕ). P i q) (sym d) h)) (λ d. g p q (o.other_place p q d))) (λ e. g p q (o.other_row p q e))

  row-done : NearAt m k → (q : ℕ) → q < j + 1 → Staged m u k i q
  row-done h q l = nat-either q j
      (λ e. subst (λ (q : ℕ). Staged m u k i q) (sym e) (subst (λ (x : Ext). Relaxed (m i k) x (m i j) (u i j)) pivot-left (subst (λ (x : Ext). Relaxed (m i k) (w k j) x (u i j)) place-left (f.exact (h.near_in i) (subst Near (sym pivot-left) (h.near_out j))))))
      (λ d. subst (λ (x : Ext). Relaxed (m i k) (m k q) (m i q) x) (sym (o.other_place i q d)) (s.done h q (omega arith)))

  row-sound : (v : ℕ → ℤ) → Meets v m → Meets v u
  row-sound v h = let g = s.sound v h in record { meets = at-place (λ p q. Above (u p q) (v q +ℤ neg_ℤ (v p))) (f.sound _ _ _ (h.meets i k) (g.meets k j) (g.meets i j) (omega (arith, ints))) (λ p q e. subst (λ (x : Ext). Above x (v q +ℤ neg_ℤ (v p))) (sym e) (g.meets p q)) }

  pub row-step : RowSoFar k i (j + 1) m u
  row-step = record {
    range = record { range = at-place (λ p q. InRange (u p q)) f.range (λ p q e. subst InRange (sym e) (s.range.range p q)) };
    done = row-done;
    left = λ q h. o.other_place i q (λ e. absurd (omega arith)) ∙ s.left q (omega arith);
    others = λ p q d. o.other_row p q d ∙ s.others p q d;
    lower = record { lower = at-place (λ p q. (x : ℤ) → IsUpTo (m p q) x → IsUpTo (u p q) x) (λ x h. f.lower x (s.lower.lower i j x h)) (λ p q e x h. subst (λ (y : Ext). IsUpTo y x) (sym e) (s.lower.lower p q x h)) };
    sound = row-sound;
  }

pub record RowLoop (n k i j : ℕ) (t s : List Ext) (a : Ext) : Type 0 where
  pub table : IsTable n s
  pub first : a ≡ cell n t i k
  pub so_far : RowSoFar k i j (cell n t) (cell n s)

pub relax-moved : {a b e f a2 b2 e2 f2 : Ext} → a ≡ a2 → b ≡ b2 → e ≡ e2 → f2 ≡ f → IsRelax a b e f → IsRelax a2 b2 e2 f2
relax-moved {a} {b} {e} {f} {a2} {b2} {e2} {f2} p q r s h = subst (λ (a : Ext). IsRelax a b2 e2 f2) p (subst (λ (b : Ext). IsRelax a b e2 f2) q (subst (λ (e : Ext). IsRelax a b e f2) r (subst (λ (f : Ext). IsRelax a b e f) (sym s) h)))

-- a pivot whose own bound is not below zero leaves its row and its column
pivot-row : (z b x : Ext) → ((v : ℤ) → IsUpTo z v → pos 0 ≤ℤ v) → Relaxed z b b x → x ≡ b
pivot-row z b x h (kept e g) = e
pivot-row z b x h (better v w p q e never) = absurd (never (subst (λ (y : Ext). IsUpTo y (v +ℤ w)) (sym q) (let k : pos 0 ≤ℤ v = h v (subst (λ (y : Ext). IsUpTo y v) (sym p) (omega (arith, ints))) in omega (arith, ints))))

pivot-column : (z b x : Ext) → ((v : ℤ) → IsUpTo z v → pos 0 ≤ℤ v) → Relaxed b z b x → x ≡ b
pivot-column z b x h (kept e g) = e
pivot-column z b x h (better v w p q e never) = absurd (never (subst (λ (y : Ext). IsUpTo y (v +ℤ w)) (sym p) (let k : pos 0 ≤ℤ w = h w (subst (λ (y : Ext). IsUpTo y w) (sym q) (omega (arith, ints))) in omega (arith, ints))))

-- the rows up to i
pub record StageSoFar (n k i : ℕ) (m w : ℕ → ℕ → Ext) : Type 0 where
  pub range : AllInRange w
  pub done : NearAt m k → PivotUp m k → (p q : ℕ) → p < i → q < n → Staged m w k p q
  pub left : (p q : ℕ) → i ≤ p → w p q ≡ m p q
  pub lower : Lowered m w
  pub sound : (v : ℕ → ℤ) → Meets v m → Meets v w

pub record StageLoop (n k i : ℕ) (t s : List Ext) : Type 0 where
  pub table : IsTable n s
  pub so_far : StageSoFar n k i (cell n t) (cell n s)

pub stage-start : (n k : ℕ) (m : ℕ → ℕ → Ext) → AllInRange m → StageSoFar n k 0 m m
stage-start n k m r = record {
  range = r;
  done = λ _ _ p q h. absurd (omega arith);
  left = λ p q _. refl;
  lower = record { lower = λ p q x h. h };
  sound = λ v h. h;
}

module _ (n k i : ℕ) (m w u : ℕ → ℕ → Ext) (inside : k < n) (s : StageSoFar n k i m w) (range : AllInRange u) (lower : Lowered w u) (sound : (v : ℕ → ℤ) → Meets v w → Meets v u) (staged : NearAt w k → RowStaged n k i w u) (others : (p q : ℕ) → (p ≡ i → ⊥) → u p q ≡ w p q) (outer : (p q : ℕ) → (q < n → ⊥) → w p q ≡ m p q) where
  column-left : NearAt m k → PivotUp m k → (p : ℕ) → w p k ≡ m p k
  column-left h z p = nat-less_or p i (λ l. pivot-column (m k k) (m p k) (w p k) z.pivot_up (s.done h z p k l inside)) (λ l. s.left p k l)

  row-left : NearAt m k → PivotUp m k → (q : ℕ) → q < n → w k q ≡ m k q
  row-left h z q g = nat-less_or k i (λ l. pivot-row (m k k) (m k q) (w k q) z.pivot_up (s.done h z k q l g)) (λ l. s.left k q l)

  row-left_all : NearAt m k → PivotUp m k → (q : ℕ) → w k q ≡ m k q
  row-left_all h z q = nat-less_or q n (λ l. row-left h z q l) (λ l. outer k q (λ g. absurd (omega arith)))

  near-left : NearAt m k → PivotUp m k → NearAt w k
  near-left h z = record {
    near_in = λ p. subst Near (sym (column-left h z p)) (h.near_in p);
    near_out = λ q. subst Near (sym (row-left_all h z q)) (h.near_out q);
  }

  stage-done : NearAt m k → PivotUp m k → (p q : ℕ) → p < i + 1 → q < n → Staged m u k p q
  stage-done h z p q l g = nat-either p i
      (λ e. let f : Staged w u k p q = subst (λ (p : ℕ). Staged w u k p q) (sym e) ((staged (near-left h z)).here q g) in
      subst (λ (x : Ext). Relaxed x (m k q) (m p q) (u p q)) (column-left h z p)
      (subst (λ (x : Ext). Relaxed (w p k) x (m p q) (u p q)) (row-left h z q g)
      (subst (λ (x : Ext). Relaxed (w p k) (w k q) x (u p q)) (s.left p q (omega arith)) f)))
      (λ d. subst (λ (x : Ext). Relaxed (m p k) (m k q) (m p q) x) (sym (others p q d)) (s.done h z p q (omega arith) g))

  pub stage-step : StageSoFar n k (i + 1) m u
  stage-step = record {
    range = range;
    done = stage-done;
    left = λ p q l. others p q (λ e. absurd (omega arith)) ∙ s.left p q (omega arith);
    lower = record { lower = λ p q x h. lower.lower p q x (s.lower.lower p q x h) };
    sound = λ v h. sound v (s.sound v h);
  }

-- what is outside the table composes with nothing
pub staged-out : (a b e f : Ext) → (a ≡ High) ⊎ (b ≡ High) → f ≡ e → Relaxed a b e f
staged-out a b e f (inl h) g = kept g (λ y z i j. absurd (subst (λ (x : Ext). IsUpTo x y) h i))
staged-out a b e f (inr h) g = kept g (λ y z i j. absurd (subst (λ (x : Ext). IsUpTo x z) h j))

pub stage-end : (n k i : ℕ) (t s : List Ext) → k < n → n ≤ i → StageSoFar n k i (cell n t) (cell n s) → NearAt (cell n t) k → PivotUp (cell n t) k → (p q : ℕ) → Staged (cell n t) (cell n s) k p q
stage-end n k i t s inside e f h z p q = nat-less_or p n
    (λ l. nat-less_or q n (λ g. f.done h z p q (omega arith) g) (λ g. staged-out _ _ _ _ (inr (cell-out n t k q (λ _ r. absurd (omega arith)))) (cell-out n s p q (λ _ r. absurd (omega arith)) ∙ sym (cell-out n t p q (λ _ r. absurd (omega arith))))))
    (λ l. staged-out _ _ _ _ (inl (cell-out n t p k (λ r _. absurd (omega arith)))) (cell-out n s p q (λ r _. absurd (omega arith)) ∙ sym (cell-out n t p q (λ r _. absurd (omega arith)))))

pub outer-same : (n : ℕ) (t s : List Ext) (p q : ℕ) → (q < n → ⊥) → cell n s p q ≡ cell n t p q
outer-same n t s p q h = cell-out n s p q (λ _ r. h r) ∙ sym (cell-out n t p q (λ _ r. h r))
