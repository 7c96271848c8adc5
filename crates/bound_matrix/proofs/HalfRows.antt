-- The loops that add halves.
use Rattle.std.specs.Prelude.{ℕ, ℤ, neg_ℤ, ◌≡◌, ◌<◌, ◌≤◌, ◌+◌, ◌%◌, ◌+ℤ◌, List, length, slice_set, Bool, true, false, nat_eq}
use Rattle.std.proofs.Common.{arith, sym, subst, refl, ◌∙◌}
use Rattle.std.proofs.lemmas.Bool.Decides.{nat_tests}
use Rattle.std.proofs.lemmas.Int.{ints}
use Rattle.std.proofs.lemmas.List.{get_or-set_same, get_or-set_other, get_or_past, get_or-replicate, length-replicate}
use Rattle.std.proofs.Common.{length-set, replicate}
use Rattle.ext_int.specs.declared.Ext.{Ext}
use Rattle.ext_int.specs.declared.Ext.TheVariants.{Low, High}
use Rattle.bound_matrix.specs.Entry.{Near, Relaxed}
use Rattle.bound_matrix.specs.Cells.{cell, IsTable, SameBut, Lowered, half_at, HalvesAbove, IsHalves, NearHalves, RowHalved, IsHalf, HalvesOf}
use Rattle.bound_matrix.proofs.Stages.{IsRelax}
use Rattle.ext_int.specs.Ext.{Above}
use Rattle.bound_matrix.specs.Bound.{AllInRange, InRange, bar}
use Rattle.bound_matrix.proofs.Places.{nat-either, nat-less_or}
use Rattle.bound_matrix.specs.Points.{IsUpTo, Meets}

pub bar-inside : (n i : ℕ) → n % 2 ≡ 0 → i < n → bar i < n
bar-inside n i e h = by (nat_eq (i % 2) 0) refl
  where
    by : (b : Bool) → nat_eq (i % 2) 0 ≡ b → bar i < n
    by true d = grind (arith, nat_tests)
    by false d = grind (arith, nat_tests)

pub record HalfRow (n i j : ℕ) (h : List Ext) (m w : ℕ → ℕ → Ext) : Type 0 where
  pub range : AllInRange w
  pub done : NearHalves h → (q : ℕ) → q < j → Relaxed (half_at h i) (half_at h (bar q)) (m i q) (w i q)
  pub left : (q : ℕ) → j ≤ q → w i q ≡ m i q
  pub others : (p q : ℕ) → (p ≡ i → ⊥) → w p q ≡ m p q
  pub lower : Lowered m w
  pub sound : (v : ℕ → ℤ) → HalvesAbove n v h → Meets v m → Meets v w

pub record HalfRowLoop (n i j : ℕ) (h : List Ext) (t s : List Ext) (a : Ext) : Type 0 where
  pub table : IsTable n s
  pub first : a ≡ half_at h i
  pub so_far : HalfRow n i j h (cell n t) (cell n s)

pub half-row-start : (n i : ℕ) (h : List Ext) (m : ℕ → ℕ → Ext) → AllInRange m → HalfRow n i 0 h m m
half-row-start n i h m r = record {
  range = r;
  done = λ _ q g. absurd (omega arith);
  left = λ q _. refl;
  others = λ p q _. refl;
  lower = record { lower = λ p q x g. g };
  sound = λ v _ g. g;
}

module _ (n i j : ℕ) (h : List Ext) (few : n ≤ 48) (row : i < n) (col : j < n) (halves : IsHalves n h) (m w u : ℕ → ℕ → Ext) (s : HalfRow n i j h m w) (f : IsRelax (half_at h i) (half_at h (bar j)) (w i j) (u i j)) (o : SameBut i j w u) where
  at-place : (P : ℕ → ℕ → Type 0) → P i j → ((p q : ℕ) → u p q ≡ w p q → P p q) → (p q : ℕ) → P p q
  at-place P h g p q = nat-either p i (λ e. nat-either q j (λ d. subst (λ (p : ℕ). P p q) (sym e) (subst (λ (q : ℕ). P i q) (sym d) h)) (λ d. g p q (o.other_place p q d))) (λ e. g p q (o.other_row p q e))

  bar-few : bar j < 48
  bar-few = let l = bar-inside n j halves.even_size col in omega arith

  row-done : NearHalves h → (q : ℕ) → q < j + 1 → Relaxed (half_at h i) (half_at h (bar q)) (m i q) (u i q)
  row-done near q l = nat-either q j
      (λ e. subst (λ (q : ℕ). Relaxed (half_at h i) (half_at h (bar q)) (m i q) (u i q)) (sym e) (subst (λ (x : Ext). Relaxed (half_at h i) (half_at h (bar j)) x (u i j)) (s.left j (omega arith)) (f.exact (near.near_half i (omega arith)) (near.near_half (bar j) bar-few))))
      (λ d. subst (λ (x : Ext). Relaxed (half_at h i) (half_at h (bar q)) (m i q) x) (sym (o.other_place i q d)) (s.done near q (omega arith)))

  row-sound : (v : ℕ → ℤ) → HalvesAbove n v h → Meets v m → Meets v u
  row-sound v k g = let t = s.sound v k g in let e = k.opposite j in record { meets = at-place (λ p q. Above (u p q) (v q +ℤ neg_ℤ (v p))) (f.sound _ _ _ (k.above i row) (k.above (bar j) (bar-inside n j halves.even_size col)) (t.meets i j) (omega (arith, ints))) (λ p q e. subst (λ (x : Ext). Above x (v q +ℤ neg_ℤ (v p))) (sym e) (t.meets p q)) }

  pub half-row-step : HalfRow n i (j + 1) h m u
  half-row-step = record {
    range = record { range = at-place (λ p q. InRange (u p q)) f.range (λ p q e. subst InRange (sym e) (s.range.range p q)) };
    done = row-done;
    left = λ q h. o.other_place i q (λ e. absurd (omega arith)) ∙ s.left q (omega arith);
    others = λ p q d. o.other_row p q d ∙ s.others p q d;
    lower = record { lower = at-place (λ p q. (x : ℤ) → IsUpTo (m p q) x → IsUpTo (u p q) x) (λ x h. f.lower x (s.lower.lower i j x h)) (λ p q e x h. subst (λ (y : Ext). IsUpTo y x) (sym e) (s.lower.lower p q x h)) };
    sound = row-sound;
  }

pub record HalveSoFar (n i : ℕ) (h : List Ext) (m w : ℕ → ℕ → Ext) : Type 0 where
  pub range : AllInRange w
  pub done : NearHalves h → (p q : ℕ) → p < i → q < n → Relaxed (half_at h p) (half_at h (bar q)) (m p q) (w p q)
  pub left : (p q : ℕ) → i ≤ p → w p q ≡ m p q
  pub lower : Lowered m w
  pub sound : (v : ℕ → ℤ) → HalvesAbove n v h → Meets v m → Meets v w

pub record HalveLoop (n i : ℕ) (h : List Ext) (t s : List Ext) : Type 0 where
  pub table : IsTable n s
  pub so_far : HalveSoFar n i h (cell n t) (cell n s)

pub halve-start : (n : ℕ) (h : List Ext) (m : ℕ → ℕ → Ext) → AllInRange m → HalveSoFar n 0 h m m
halve-start n h m r = record {
  range = r;
  done = λ _ p q g. absurd (omega arith);
  left = λ p q _. refl;
  lower = record { lower = λ p q x g. g };
  sound = λ v _ g. g;
}

pub halve-step : (n i : ℕ) (h : List Ext) (m w u : ℕ → ℕ → Ext) → HalveSoFar n i h m w → AllInRange u → Lowered w u → ((v : ℕ → ℤ) → HalvesAbove n v h → Meets v w → Meets v u) → (NearHalves h → RowHalved n i h w u) → ((p q : ℕ) → (p ≡ i → ⊥) → u p q ≡ w p q) → HalveSoFar n (i + 1) h m u
halve-step n i h m w u s range lower sound halved others = record {
  range = range;
  done = λ near p q l g. nat-either p i
      (λ e. subst (λ (p : ℕ). Relaxed (half_at h p) (half_at h (bar q)) (m p q) (u p q)) (sym e) (subst (λ (x : Ext). Relaxed (half_at h i) (half_at h (bar q)) x (u i q)) (s.left i q (omega arith)) ((halved near).row_halved q g)))
      (λ d. subst (λ (x : Ext). Relaxed (half_at h p) (half_at h (bar q)) (m p q) x) (sym (others p q d)) (s.done near p q (omega arith) g));
  left = λ p q l. others p q (λ e. absurd (omega arith)) ∙ s.left p q (omega arith);
  lower = record { lower = λ p q x h. lower.lower p q x (s.lower.lower p q x h) };
  sound = λ v k g. sound v k (s.sound v k g);
}

pub record TakeLoop (n i : ℕ) (m : ℕ → ℕ → Ext) (h : List Ext) : Type 0 where
  pub size : length h ≡ 48
  pub range : (p : ℕ) → p < 48 → InRange (half_at h p)
  pub done : (p : ℕ) → p < i → IsHalf (m p (bar p)) (half_at h p)
  pub near : ((i j : ℕ) → Near (m i j)) → (p : ℕ) → p < i → Near (half_at h p)
  pub rest : (p : ℕ) → i ≤ p → p < 48 → half_at h p ≡ High

pub take-step : (n i : ℕ) (m : ℕ → ℕ → Ext) (h : List Ext) (e f : Ext) → i < 48 → TakeLoop n i m h → e ≡ m i (bar i) → InRange f → IsHalf e f → (Near e → Near f) → TakeLoop n (i + 1) m (slice_set h i f)
take-step n i m h e f l s q range half near = record {
  size = length-set h i f ∙ s.size;
  range = λ p g. nat-either p i (λ d. rw d (rw here range)) (λ d. rw (there p d) (s.range p g));
  done = λ p g. nat-either p i (λ d. rw d (rw here (subst (λ (e : Ext). IsHalf e f) q half))) (λ d. rw (there p d) (s.done p (omega arith)));
  near = λ a p g. nat-either p i (λ d. rw d (rw here (near (subst Near (sym q) (a i (bar i)))))) (λ d. rw (there p d) (s.near a p (omega arith)));
  rest = λ p g k. there p (λ d. absurd (omega arith)) ∙ s.rest p (omega arith) k;
}
  where
    here : half_at (slice_set h i f) i ≡ f
    here = get_or-set_same h i f Low (let z = s.size in omega arith)

    there : (p : ℕ) → (p ≡ i → ⊥) → half_at (slice_set h i f) p ≡ half_at h p
    there p d = get_or-set_other h i p f Low d

pub take-end : (n i : ℕ) (m : ℕ → ℕ → Ext) (h : List Ext) → i ≡ n → TakeLoop n i m h → HalvesOf n m h
take-end n i m h e s = record {
  of_size = s.size;
  of_range = s.range;
  of_half = λ p l. s.done p (omega arith);
  of_near = λ a. record { near_half = λ p l. nat-less_or p i (λ g. s.near a p g) (λ g. subst Near (sym (s.rest p g l)) tt) };
  of_out = λ p l x g. nat-less_or p 48 (λ k. subst (λ (e : Ext). IsUpTo e x) (s.rest p (omega arith) k) g) (λ k. subst (λ (e : Ext). IsUpTo e x) (get_or_past h p Low (let z = s.size in omega arith)) g);
}

pub take-start : (n : ℕ) (m : ℕ → ℕ → Ext) (h : List Ext) → h ≡ replicate 48 High → TakeLoop n 0 m h
take-start n m h e = record {
  size = rw e (length-replicate 48 High);
  range = λ p l. subst InRange (sym (at p l)) tt;
  done = λ p l. absurd (omega arith);
  near = λ a p l. absurd (omega arith);
  rest = λ p _ l. at p l;
}
  where
    at : (p : ℕ) → p < 48 → half_at h p ≡ High
    at p l = rw e (get_or-replicate 48 p High Low l)
