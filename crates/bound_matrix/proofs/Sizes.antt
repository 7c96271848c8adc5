-- The entries stay small: each is a sum over a way that meets no pivot twice.
use Rattle.std.specs.Int.Signed.{le_z}
use Rattle.std.specs.Prelude.{ℕ, zero, suc, ℤ, pos, ◌≡◌, ◌<◌, ◌≤◌, ◌+◌, ◌*◌, ◌+ℤ◌, neg_ℤ, ◌≤ℤ◌, ◌<ℤ◌, Bool, true, false, cond}
use Rattle.std.proofs.Common.{arith, sym, subst, refl, ◌∙◌}
use Rattle.std.proofs.lemmas.Int.{ints, by_lt_z}
use Rattle.ext_int.specs.declared.Ext.{Ext}
use Rattle.ext_int.specs.declared.Ext.TheVariants.{Low, Fin, High}
use Rattle.bound_matrix.specs.Rel.{Through, NotBelowZero}
use Rattle.bound_matrix.specs.Entry.{Bounds, Staged, kept, better}
use Rattle.bound_matrix.specs.Points.{IsUpTo}

-- the sum of B over the numbers below k at which P holds
abbrev pub tally : ℕ → (ℕ → Bool) → ℕ → ℕ
tally B P zero = 0
tally B P (suc k) = tally B P k + cond (P k) B 0

-- a is on a shortest way from i to j
abbrev pub between : Ext → Ext → Ext → Bool
between (Fin y) (Fin z) (Fin x) = le_z (y +ℤ z) x
between (Fin y) (Fin z) Low = false
between (Fin y) (Fin z) High = false
between (Fin y) Low x = false
between (Fin y) High x = false
between Low z x = false
between High z x = false

-- each finite cell is at most W in size, where W is B and B for each pivot on a shortest way
pub record Sized (B k : ℕ) (m : ℕ → ℕ → Ext) : Type 0 where
  pub size : (i j : ℕ) (x : ℤ) → m i j ≡ Fin x → (x ≤ℤ pos (tally B (λ (a : ℕ). between (m i a) (m a j) (m i j)) k + B)) × (neg_ℤ (pos (tally B (λ (a : ℕ). between (m i a) (m a j) (m i j)) k + B)) ≤ℤ x)

pub record IsFinite (e : Ext) (x : ℤ) : Type 0 where
  pub value : ℤ
  pub is : e ≡ Fin value
  pub most : value ≤ℤ x

pub finite : (e : Ext) (x : ℤ) → IsUpTo e x → IsFinite e x
finite Low x h = absurd h
finite (Fin w) x h = record { value = w; is = refl; most = h }
finite High x h = absurd h

at-most : {e : Ext} {w : ℤ} (x : ℤ) → e ≡ Fin w → w ≤ℤ x → IsUpTo e x
at-most {e} {w} x p h = subst (λ (f : Ext). IsUpTo f x) (sym p) h

record IsBetween (e f g : Ext) : Type 0 where
  first : ℤ
  second : ℤ
  sum : ℤ
  first-is : e ≡ Fin first
  second-is : f ≡ Fin second
  sum-is : g ≡ Fin sum
  most : (first +ℤ second) ≤ℤ sum

between-true : (e f g : Ext) → between e f g ≡ true → IsBetween e f g
between-true (Fin y) (Fin z) (Fin x) h = record { first = y; second = z; sum = x; first-is = refl; second-is = refl; sum-is = refl; most = grind (arith, ints) }
between-true (Fin y) (Fin z) Low h = absurd cc
between-true (Fin y) (Fin z) High h = absurd cc
between-true (Fin y) Low x h = absurd cc
between-true (Fin y) High x h = absurd cc
between-true Low z x h = absurd cc
between-true High z x h = absurd cc

is-between : (y z x : ℤ) → (y +ℤ z) ≤ℤ x → between (Fin y) (Fin z) (Fin x) ≡ true
is-between y z x h = grind (arith, ints)

make-between : {e f g : Ext} {y z x : ℤ} → e ≡ Fin y → f ≡ Fin z → g ≡ Fin x → (y +ℤ z) ≤ℤ x → between e f g ≡ true
make-between {e} {f} {g} {y} {z} {x} p q r h = rw (p, q, r) (is-between y z x h)

-- tallies
tally-sub : (B : ℕ) (P Q : ℕ → Bool) (k : ℕ) → ((a : ℕ) → a < k → P a ≡ true → Q a ≡ true) → tally B P k ≤ tally B Q k
tally-sub B P Q zero s = omega arith
tally-sub B P Q (suc k) s = let h = tally-sub B P Q k (λ a l. s a (omega arith)) in let g = one (P k) (Q k) (s k (omega arith)) in omega arith
  where
    one : (p q : Bool) → (p ≡ true → q ≡ true) → cond p B 0 ≤ cond q B 0
    one true true f = omega arith
    one true false f = absurd (let e = f refl in cc)
    one false true f = omega arith
    one false false f = omega arith

tally-apart : (B : ℕ) (P Q S : ℕ → Bool) (k : ℕ) → ((a : ℕ) → a < k → P a ≡ true → S a ≡ true) → ((a : ℕ) → a < k → Q a ≡ true → S a ≡ true) → ((a : ℕ) → a < k → P a ≡ true → Q a ≡ true → ⊥) → (tally B P k + tally B Q k) ≤ tally B S k
tally-apart B P Q S zero s t d = omega arith
tally-apart B P Q S (suc k) s t d = let h = tally-apart B P Q S k (λ a l. s a (omega arith)) (λ a l. t a (omega arith)) (λ a l. d a (omega arith)) in let g = one (P k) (Q k) (S k) (s k (omega arith)) (t k (omega arith)) (d k (omega arith)) in omega arith
  where
    one : (p q r : Bool) → (p ≡ true → r ≡ true) → (q ≡ true → r ≡ true) → (p ≡ true → q ≡ true → ⊥) → (cond p B 0 + cond q B 0) ≤ cond r B 0
    one true true r f g h = absurd (h refl refl)
    one true false true f g h = omega arith
    one true false false f g h = absurd (let e = f refl in cc)
    one false true true f g h = omega arith
    one false true false f g h = absurd (let e = g refl in cc)
    one false false true f g h = omega arith
    one false false false f g h = omega arith

pub tally-most : (B : ℕ) (P : ℕ → Bool) (k : ℕ) → tally B P k ≤ k * B
tally-most B P zero = omega arith
tally-most B P (suc k) = let h = tally-most B P k in let g = one (P k) in let e : suc k * B ≡ k * B + B = grind arith in omega arith
  where
    one : (p : Bool) → cond p B 0 ≤ B
    one true = omega arith
    one false = omega arith

module _ (B k : ℕ) (m n : ℕ → ℕ → Ext) (s : (i j : ℕ) → Staged m n k i j) (t : (a : ℕ) → a < k → Through (Bounds m) a) (z : NotBelowZero (Bounds n)) (d : Sized B k m) where
  lowered : (i j : ℕ) (x : ℤ) → m i j ≡ Fin x → Staged m n k i j → IsFinite (n i j) x
  lowered i j x e (kept h g) = record { value = x; is = h ∙ e; most = omega (arith, ints) }
  lowered i j x e (better p q f g h b) = record { value = p +ℤ q; is = h; most = by_lt_z x (p +ℤ q) (λ (l : x <ℤ (p +ℤ q)). absurd (b (at-most (p +ℤ q) e (omega (arith, ints))))) (λ (l : (p +ℤ q) ≤ℤ x). l) }

  joined : (i j : ℕ) (p q : ℤ) → m i k ≡ Fin p → m k j ≡ Fin q → Staged m n k i j → IsUpTo (n i j) (p +ℤ q)
  joined i j p q e f (kept h g) = rw h (g p q (at-most p e (omega (arith, ints))) (at-most q f (omega (arith, ints))))
  joined i j p q e f (better p2 q2 e2 f2 h b) = at-most (p +ℤ q) h (let u : p2 ≡ p = cc in let v : q2 ≡ q = cc in omega (arith, ints))

  old-way : (i j a : ℕ) → n i j ≡ m i j → between (m i a) (m a j) (m i j) ≡ true → between (n i a) (n a j) (n i j) ≡ true
  old-way i j a e h = let w = between-true _ _ _ h in let f = lowered i a w.first w.first-is (s i a) in let g = lowered a j w.second w.second-is (s a j) in make-between f.is g.is (e ∙ w.sum-is) (omega (arith, ints))

  first-way : (i j a : ℕ) (y x : ℤ) → m i k ≡ Fin y → m k j ≡ Fin x → n i j ≡ Fin (y +ℤ x) → between (m i a) (m a k) (m i k) ≡ true → between (n i a) (n a j) (n i j) ≡ true
  first-way i j a y x e f h b = let w : IsBetween (m i a) (m a k) (m i k) = between-true _ _ _ b in let v : w.sum ≡ y = (let u = w.sum-is in cc) in let p = lowered i a w.first w.first-is (s i a) in let q = finite _ _ (joined a j w.second x w.second-is f (s a j)) in make-between p.is q.is h (omega (arith, ints))

  second-way : (i j a : ℕ) (y x : ℤ) → m i k ≡ Fin y → m k j ≡ Fin x → n i j ≡ Fin (y +ℤ x) → between (m k a) (m a j) (m k j) ≡ true → between (n i a) (n a j) (n i j) ≡ true
  second-way i j a y x e f h b = let w : IsBetween (m k a) (m a j) (m k j) = between-true _ _ _ b in let v : w.sum ≡ x = (let u = w.sum-is in cc) in let p = finite _ _ (joined i a y w.first e w.first-is (s i a)) in let q = lowered a j w.second w.second-is (s a j) in make-between p.is q.is h (omega (arith, ints))

  no-both : (i j a : ℕ) (y x : ℤ) → a < k → m i k ≡ Fin y → m k j ≡ Fin x → (IsUpTo (m i j) (y +ℤ x) → ⊥) → between (m i a) (m a k) (m i k) ≡ true → between (m k a) (m a j) (m k j) ≡ true → ⊥
  no-both i j a y x l e f never b c = let w = between-true _ _ _ b in let v = between-true _ _ _ c in
      let o : pos 0 ≤ℤ (w.second +ℤ v.first) = z.zero_up a _ (joined a a w.second v.first w.second-is v.first-is (s a a)) in
      let g = finite _ _ ((t a l).joined i j w.first v.second (at-most w.first w.first-is (omega (arith, ints))) (at-most v.second v.second-is (omega (arith, ints)))) in
      let p : w.sum ≡ y = (let u = w.sum-is in cc) in let q : v.sum ≡ x = (let u = v.sum-is in cc) in
      never (at-most (y +ℤ x) g.is (omega (arith, ints)))

  staged-size : (i j : ℕ) (x : ℤ) → n i j ≡ Fin x → Staged m n k i j → (x ≤ℤ pos (tally B (λ (a : ℕ). between (n i a) (n a j) (n i j)) (suc k) + B)) × (neg_ℤ (pos (tally B (λ (a : ℕ). between (n i a) (n a j) (n i j)) (suc k) + B)) ≤ℤ x)
  staged-size i j x e (kept h g) = let o = d.size i j x (sym h ∙ e) in let l = tally-sub B (λ (a : ℕ). between (m i a) (m a j) (m i j)) (λ (a : ℕ). between (n i a) (n a j) (n i j)) k (λ a _ b. old-way i j a h b) in (omega (arith, ints), omega (arith, ints))
  staged-size i j x e (better p q f g h never) = let o = d.size i k p f in let r = d.size k j q g in
      let l = tally-apart B (λ (a : ℕ). between (m i a) (m a k) (m i k)) (λ (a : ℕ). between (m k a) (m a j) (m k j)) (λ (a : ℕ). between (n i a) (n a j) (n i j)) k (λ a _ b. first-way i j a p q f g h b) (λ a _ b. second-way i j a p q f g h b) (λ a c b. no-both i j a p q c f g never b) in
      let v : x ≡ p +ℤ q = cc in
      let here = pivot p q f g h (s i k) (s k j) in
      (omega (arith, ints), omega (arith, ints))
    where
      pivot : (p q : ℤ) → m i k ≡ Fin p → m k j ≡ Fin q → n i j ≡ Fin (p +ℤ q) → Staged m n k i k → Staged m n k k j → cond (between (n i k) (n k j) (n i j)) B 0 ≡ B
      pivot p q f g h a b = let u = lowered i k p f a in let v = lowered k j q g b in rw (make-between u.is v.is h (omega (arith, ints))) refl

pub Sized-step : (B k : ℕ) (m n : ℕ → ℕ → Ext) → ((i j : ℕ) → Staged m n k i j) → ((a : ℕ) → a < k → Through (Bounds m) a) → NotBelowZero (Bounds n) → Sized B k m → Sized B (suc k) n
Sized-step B k m n s t z d = record { size = λ i j x e. staged-size B k m n s t z d i j x e (s i j) }
