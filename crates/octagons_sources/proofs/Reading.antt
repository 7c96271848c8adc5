-- What a drawn bound is made of.
use Rattle.std.proofs.Common.{inl, inr, ℕ, ℤ, pos, neg_ℤ, Option, None, Some, ◌≡◌, ◌<◌, ◌≤◌, ◌+◌, ◌-◌, ◌*◌, ◌/◌, ◌%◌, ◌+ℤ◌, ◌≤ℤ◌, refl, ap, sym, subst, ◌∙◌, arith, true, false, Bool, cond, nat_eq, List}
use Rattle.std.specs.Prelude.{◌⊎◌}
use Rattle.std.proofs.lemmas.Int.{ints}
use Rattle.std.proofs.lemmas.Bool.Decides.{nat_tests}
use Rattle.ext_int.specs.Ext.{half, sum_high}
use Rattle.ext_int.specs.declared.Ext.{Ext}
use Rattle.ext_int.specs.declared.Ext.TheVariants.{Low, Fin, High}
use Rattle.bound_matrix.specs.Bound.{bar}
use Rattle.bound_matrix.proofs.Places.{Sign, even, odd, sign, nat-either}
use Rattle.octagons_sources.specs.declared.source.Source.{Source}
use Rattle.octagons_sources.specs.Sources.{source_at, place_index, index_from, most_of, most_added}
use Rattle.octagons_sources.specs.Drawn.{between, whole_sum, drawn, drawn_whole}

pub either : {P Q R : Type 0} → P ⊎ Q → (P → R) → (Q → R) → R
either (inl p) f g = f p
either (inr q) f g = g q

-- the same variable with the other sign
abbrev pub other_index : Option ℕ → Option ℕ
other_index None = None
other_index (Some i) = Some (bar i)

pub bar-half : (i : ℕ) → bar i / 2 ≡ i / 2
bar-half i = by (sign i)
  where
    by : Sign i → bar i / 2 ≡ i / 2
    by (even a p q r s t) = omega arith
    by (odd a p q r s t) = omega arith

pub bar-rest : (i : ℕ) → bar i % 2 ≡ 1 - i % 2
bar-rest i = by (sign i)
  where
    by : Sign i → bar i % 2 ≡ 1 - i % 2
    by (even a p q r s t) = omega arith
    by (odd a p q r s t) = omega arith

bar-even : (k : ℕ) → bar (k + k) ≡ k + k + 1
bar-even k = by (sign (k + k))
  where
    by : Sign (k + k) → bar (k + k) ≡ k + k + 1
    by (even a p q r s t) = omega arith
    by (odd a p q r s t) = omega arith

bar-odd : (k : ℕ) → bar (k + k + 1) ≡ k + k
bar-odd k = by (sign (k + k + 1))
  where
    by : Sign (k + k + 1) → bar (k + k + 1) ≡ k + k
    by (even a p q r s t) = omega arith
    by (odd a p q r s t) = omega arith

pub index-bar : (k a b : ℕ) → a < 2 → b ≡ 1 - a → k + k + b ≡ bar (k + k + a)
index-bar k a b l e = nat-either a 0
    (λ z. let f : k + k + a ≡ k + k = omega arith in rw (f, bar-even k) (omega arith))
    (λ z. let f : k + k + a ≡ k + k + 1 = omega arith in rw (f, bar-odd k) (omega arith))

place_index-bar : (o : Option ℕ) (s : Bool) (p : ℕ) → place_index o s (bar p) ≡ other_index (place_index o s p)
place_index-bar None s p = refl
place_index-bar (Some k) false p = ap Some (index-bar k (p % 2) (bar p % 2) (omega arith) (bar-rest p))
place_index-bar (Some k) true p = ap Some (index-bar k (1 - p % 2) (1 - bar p % 2) (omega arith) (let e = bar-rest p in omega arith))

pub index_from-bar : (from : List Source) (p : ℕ) → index_from from (bar p) ≡ other_index (index_from from p)
index_from-bar from p = ap (λ k. place_index (source_at from k).place (source_at from k).negated (bar p)) (bar-half p)
    ∙ place_index-bar (source_at from (p / 2)).place (source_at from (p / 2)).negated p

-- a whole sum that is a number has three numbers as parts
pub record Parts (a b c : Ext) (x : ℤ) : Type 0 where
  pub first : ℤ
  pub second : ℤ
  pub third : ℤ
  pub first_is : a ≡ Fin first
  pub second_is : b ≡ Fin second
  pub third_is : c ≡ Fin third
  pub sum : x ≡ ((first +ℤ second) +ℤ third)

pub parts : (a b c : Ext) (x : ℤ) → whole_sum a b c ≡ Fin x → Parts a b c x
parts Low b c x e = cc
parts High b c x e = cc
parts (Fin u) Low c x e = cc
parts (Fin u) High c x e = cc
parts (Fin u) (Fin v) Low x e = cc
parts (Fin u) (Fin v) High x e = cc
parts (Fin u) (Fin v) (Fin w) x e = record { first = u; second = v; third = w; first_is = refl; second_is = refl; third_is = refl; sum = cc }

pub whole_sum-is : (a b c : Ext) (x y z : ℤ) → a ≡ Fin x → b ≡ Fin y → c ≡ Fin z → whole_sum a b c ≡ Fin ((x +ℤ y) +ℤ z)
whole_sum-is a b c x y z e f g = rw (e, f, g) refl

-- the bound of an index and itself is 0; another one is a sum
module _ (from : List Source) (m : ℕ → ℕ → Ext) where
  pub drawn-same : (p q : ℕ) → p ≡ q → drawn_whole from m p q ≡ Fin (pos 0)
  drawn-same p q e = let t : nat_eq p q ≡ true = grind (arith, nat_tests) in rw t refl

  pub drawn-other : (p q : ℕ) → (p ≡ q → ⊥) → drawn_whole from m p q ≡ whole_sum (between m (index_from from p) (index_from from q)) (most_added from q) (most_added from (bar p))
  drawn-other p q d = let t : nat_eq p q ≡ false = grind (arith, nat_tests) in rw t refl

  pub drawn-is : (p q : ℕ) (e a b : Ext) → (p ≡ q → ⊥) → e ≡ between m (index_from from p) (index_from from q) → a ≡ most_added from q → b ≡ most_added from (bar p) → sum_high (sum_high e a) b ≡ drawn from m p q
  drawn-is p q e a b d f g h = let t : nat_eq p q ≡ false = grind (arith, nat_tests) in rw (f, g, h, t) refl

  pub whole-is : (p q : ℕ) (e a b : Ext) → (p ≡ q → ⊥) → e ≡ between m (index_from from p) (index_from from q) → a ≡ most_added from q → b ≡ most_added from (bar p) → whole_sum e a b ≡ drawn_whole from m p q
  whole-is p q e a b d f g h = ap (λ (x : Ext). whole_sum x a b) f ∙ (ap (λ (x : Ext). whole_sum (between m (index_from from p) (index_from from q)) x b) g
      ∙ (ap (whole_sum (between m (index_from from p) (index_from from q)) (most_added from q)) h ∙ sym (drawn-other p q d)))

pub most_added-bar : (from : List Source) (p : ℕ) → most_of (source_at from (p / 2)) (bar p) ≡ most_added from (bar p)
most_added-bar from p = ap (λ (k : ℕ). most_of (source_at from k) (bar p)) (sym (bar-half p))
