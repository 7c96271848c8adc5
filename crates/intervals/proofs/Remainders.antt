-- What remainders carry over to intervals.
use Rattle.std.proofs.Common.{◌≡◌, ◌≢◌, ℕ, ℤ, pos, negsuc, zero, suc, ◌%◌, ◌^◌, ◌<◌, ◌≤◌, ◌-ℤ◌, neg_ℤ, ◌≤ℤ◌, ◌<ℤ◌, ◌⊎◌, ⊎_elim, Some, None, arith, refl, sym, ◌∙◌, ap, subst, FitsSigned, true, false}
use Rattle.std.specs.Prelude.{int_rem, Bool, IsTrue, if◌then◌else◌}
use Rattle.std.specs.Int.{int_min, int_max}
use Rattle.std.specs.Int.RustNames.{int_lt}
use Rattle.std.proofs.lemmas.Int.{ints, by_lt_z}
use Rattle.std.proofs.Math.Nat.{mod-eq_of_lt}
use mir.Syntax.{w128}
use Rattle.ext_int.specs.declared.Ext.{Ext}
use Rattle.ext_int.specs.declared.Ext.TheVariants.{Low, Fin, High}
use Rattle.ext_int.specs.Ext.{Below, Above, AtMost, lesser, greater, rounded_low, negation, low_end, holds_number}
use Rattle.ext_int.proofs.Ends.{AtMost_trans, AtMost-from_below, AtMost-from_above, Below-from_at_most, Above-from_at_most, rounded_low_below, negation_falls, low_end-fits, lesser_greatest, greater_least, greater_first, greater_second, lesser_first, lesser_second, holds_number_from, le-from_int_le}
use Rattle.num_api.specs.declared.expr.NOp.TheVariants.{Rem}
use Rattle.num_api.specs.Value.{binary_value}
use Rattle.num_api.specs.Spans.{Span, span, FitsSpan, remainders, greatest_size}
use Rattle.intervals.specs.declared.Interval.{Interval}
use Rattle.intervals.specs.Interval.{Admits, IsPoint, IsBetween, IsWithin, least_end, greatest_end}
use Rattle.intervals.specs.Operations.{Carries, HoldsRemainders, size_less_one, greatest_remainder}
use Rattle.intervals.proofs.Arithmetic.{on_numbers}
use Rattle.intervals.proofs.Inside.{within_number, within_finite, same_point, only_number, has_number}
use Rattle.intervals.proofs.Quotients.{by_not_zero}

-- ---- one remainder

-- one less than the size of a number
abbrev pub less_one : ℤ → ℤ
less_one y = if int_lt (pos 0) y then y -ℤ pos 1 else negsuc 0 -ℤ y

-- it is on the dividend's side of 0, no further from it, and of less size than the divisor
pub record IsRemainder (x y n : ℤ) : Type 0 where
  pub low : int_min x (pos 0) ≤ℤ n
  pub high : n ≤ℤ int_max x (pos 0)
  pub size_low : neg_ℤ (less_one y) ≤ℤ n
  pub size_high : n ≤ℤ less_one y

pos_remainder : (a n : ℕ) (y : ℤ) → 0 < n → less_one y ≡ pos n -ℤ pos 1 → IsRemainder (pos a) y (pos (a % n))
pos_remainder a n y h e =
    let size : a % n < n = omega arith in
    let part : a % n ≤ a = omega arith in
    record {
      low = grind (arith, ints);
      high = grind (arith, ints);
      size_low = rw e (omega (arith, ints));
      size_high = rw e (omega (arith, ints));
    }

neg_remainder : (a n : ℕ) (y : ℤ) → 0 < n → less_one y ≡ pos n -ℤ pos 1 → IsRemainder (negsuc a) y (neg_ℤ (pos (suc a % n)))
neg_remainder a n y h e =
    let size : suc a % n < n = omega arith in
    let part : suc a % n ≤ suc a = omega arith in
    record {
      low = grind (arith, ints);
      high = grind (arith, ints);
      size_low = rw e (omega (arith, ints));
      size_high = rw e (omega (arith, ints));
    }

less_one-pos : (k : ℕ) → less_one (pos (suc k)) ≡ pos (suc k) -ℤ pos 1
less_one-pos k = grind (arith, ints)

less_one-neg : (k : ℕ) → less_one (negsuc k) ≡ pos (suc k) -ℤ pos 1
less_one-neg k = grind (arith, ints)

pub remainder_is : (x y : ℤ) → y ≢ pos 0 → IsRemainder x y (int_rem x y)
remainder_is x (pos zero) ne = absurd (ne refl)
remainder_is (pos a) (pos (suc k)) ne = pos_remainder a (suc k) (pos (suc k)) (omega arith) (less_one-pos k)
remainder_is (pos a) (negsuc k) ne = pos_remainder a (suc k) (negsuc k) (omega arith) (less_one-neg k)
remainder_is (negsuc a) (pos (suc k)) ne = neg_remainder a (suc k) (pos (suc k)) (omega arith) (less_one-pos k)
remainder_is (negsuc a) (negsuc k) ne = neg_remainder a (suc k) (negsuc k) (omega arith) (less_one-neg k)

-- ---- the greatest size of a divisor

-- each divisor's size is reached by one of the ends of the divisors
less_one_ends : (c d : Ext) (y : ℤ) → Below c y → Above d y → AtMost (Fin (less_one y)) (greater (size_less_one c) (size_less_one d))
less_one_ends c d y p q = by_lt_z (pos 0) y
    (λ above. AtMost_trans (Fin (less_one y)) (size_less_one d) (greater (size_less_one c) (size_less_one d)) (by_high d q above) (greater_second (size_less_one c) (size_less_one d)))
    (λ below. AtMost_trans (Fin (less_one y)) (size_less_one c) (greater (size_less_one c) (size_less_one d)) (by_low c p below) (greater_first (size_less_one c) (size_less_one d)))
  where
    number_high : (h y : ℤ) → y ≤ℤ h → pos 0 <ℤ y → less_one y ≤ℤ less_one h
    number_high h y q above = grind (arith, ints)

    number_low : (l y : ℤ) → l ≤ℤ y → y ≤ℤ pos 0 → less_one y ≤ℤ less_one l
    number_low l y p below = grind (arith, ints)

    by_high : (d : Ext) → Above d y → pos 0 <ℤ y → AtMost (Fin (less_one y)) (size_less_one d)
    by_high Low q above = absurd q
    by_high (Fin h) q above = number_high h y q above
    by_high High q above = tt

    by_low : (c : Ext) → Below c y → y ≤ℤ pos 0 → AtMost (Fin (less_one y)) (size_less_one c)
    by_low Low p below = tt
    by_low (Fin l) p below = number_low l y p below
    by_low High p below = absurd p

-- the ends of the remainders by divisors that leave remainders of size `m` at most
abbrev pub low_remainder : Ext → Ext → Ext
low_remainder m a = greater (rounded_low (negation m)) (lesser a (Fin (pos 0)))

abbrev pub high_remainder : Ext → Ext → Ext
high_remainder m b = lesser m (greater b (Fin (pos 0)))

low_holds : (m a : Ext) (x y n : ℤ) → AtMost (Fin (less_one y)) m → Below a x → IsRemainder x y n → Below (low_remainder m a) n
low_holds m a x y n most p rest =
    Below-from_at_most _ n (greater_least (Fin n) (rounded_low (negation m)) (lesser a (Fin (pos 0)))
    (AtMost_trans (rounded_low (negation m)) (negation m) (Fin n) (rounded_low_below (negation m))
    (AtMost_trans (negation m) (Fin (neg_ℤ (less_one y))) (Fin n) (negation_falls (Fin (less_one y)) m most) rest.size_low))
    (AtMost_trans (lesser a (Fin (pos 0))) (Fin (int_min x (pos 0))) (Fin n)
    (lesser_greatest (lesser a (Fin (pos 0))) (Fin x) (Fin (pos 0))
    (AtMost_trans (lesser a (Fin (pos 0))) a (Fin x) (lesser_first a (Fin (pos 0))) (AtMost-from_below a x p))
    (lesser_second a (Fin (pos 0))))
    rest.low))

high_holds : (m b : Ext) (x y n : ℤ) → AtMost (Fin (less_one y)) m → Above b x → IsRemainder x y n → Above (high_remainder m b) n
high_holds m b x y n most p rest =
    Above-from_at_most _ n (lesser_greatest (Fin n) m (greater b (Fin (pos 0)))
    (AtMost_trans (Fin n) (Fin (less_one y)) m rest.size_high most)
    (AtMost_trans (Fin n) (Fin (int_max x (pos 0))) (greater b (Fin (pos 0))) rest.high
    (greater_least (greater b (Fin (pos 0))) (Fin x) (Fin (pos 0))
    (AtMost_trans (Fin x) b (greater b (Fin (pos 0))) (AtMost-from_above b x p) (greater_first b (Fin (pos 0))))
    (greater_second b (Fin (pos 0))))))

-- every remainder lies between the ends
pub remainder_between : (a b : Interval) (x y : ℤ) → Admits a x → Admits b y → y ≢ pos 0 → Below (low_remainder (greatest_remainder b) (least_end a)) (int_rem x y) × Above (high_remainder (greatest_remainder b) (greatest_end a)) (int_rem x y)
remainder_between a b x y p q ne =
    let rest = remainder_is x y ne in
    let sizes = greater (size_less_one (least_end b)) (size_less_one (greatest_end b)) in
    let most = AtMost_trans (Fin (less_one y)) sizes (greatest_remainder b) (less_one_ends (least_end b) (greatest_end b) y q.0 q.1) (greater_second (Fin (pos 0)) sizes) in
    (low_holds (greatest_remainder b) (least_end a) x y (int_rem x y) most p.0 rest, high_holds (greatest_remainder b) (greatest_end a) x y (int_rem x y) most p.1 rest)

-- ---- no wider than the rule

-- the rule by divisors of size at most m + 1
abbrev ruled : Span → ℤ → Span
ruled s m = span (int_max (neg_ℤ m) (int_min s.lo (pos 0))) (int_min m (int_max s.hi (pos 0)))

-- the rule, where it leaves something: `m` is one less than the greatest size of a divisor, and not below 0
record IsRule (s t u : Span) (m : ℤ) : Type 0 where
  not_below : pos 0 ≤ℤ m
  most : m ≡ greatest_size t -ℤ pos 1
  is : ruled s m ≡ u

rule_of : (s t u : Span) → remainders s t ≡ Some u → IsRule s t u (greatest_size t -ℤ pos 1)
rule_of s t u e = by_test (int_lt (greatest_size t -ℤ pos 1) (pos 0)) refl e
  where
    by_test : (b : Bool) → int_lt (greatest_size t -ℤ pos 1) (pos 0) ≡ b → (if b then None else Some (ruled s (greatest_size t -ℤ pos 1))) ≡ Some u → IsRule s t u (greatest_size t -ℤ pos 1)
    by_test true test e = cc
    by_test false test e = record { not_below = not_under (greatest_size t -ℤ pos 1) test; most = refl; is = cc }
      where
        not_under : (m : ℤ) → int_lt m (pos 0) ≡ false → pos 0 ≤ℤ m
        not_under m e = grind (arith, ints)

max_least : (x y m : ℤ) → x ≤ℤ m → y ≤ℤ m → int_max x y ≤ℤ m
max_least x y m h k = grind (arith, ints)

max_first : (x y : ℤ) → x ≤ℤ int_max x y
max_first x y = grind (arith, ints)

max_second : (x y : ℤ) → y ≤ℤ int_max x y
max_second x y = grind (arith, ints)

-- the size of a number between two others
less_one_between : (l h c m : ℤ) → l ≤ℤ c → c ≤ℤ h → m ≡ int_max (neg_ℤ l) h -ℤ pos 1 → less_one c ≤ℤ m
less_one_between l h c m p q e =
    let first = max_first (neg_ℤ l) h in
    let second = max_second (neg_ℤ l) h in
    by_lt_z (pos 0) c
    (λ above. let is : less_one c ≡ c -ℤ pos 1 = grind (arith, ints) in rw is (omega (arith, ints)))
    (λ below. let is : less_one c ≡ negsuc 0 -ℤ c = grind (arith, ints) in rw is (omega (arith, ints)))

max_fits : (l h : ℤ) → FitsSigned w128 l → FitsSigned w128 h → int_max (neg_ℤ l) h ≤ℤ pos (2 ^ 127)
max_fits l h f g = max_least (neg_ℤ l) h (pos (2 ^ 127)) (omega (arith, ints)) (omega (arith, ints))

-- a size up to one that is less than 2^127 has a negation that is an i128
negation_fits : (k m n : ℤ) → pos 0 ≤ℤ k → k ≤ℤ m → m ≡ n -ℤ pos 1 → n ≤ℤ pos (2 ^ 127) → FitsSigned w128 (neg_ℤ k)
negation_fits k m n low high e top = omega (arith, ints)

low_within : (sl a m k : ℤ) → sl ≤ℤ a → k ≤ℤ m → int_max (neg_ℤ m) (int_min sl (pos 0)) ≤ℤ int_max (neg_ℤ k) (int_min a (pos 0))
low_within sl a m k p q =
    max_least (neg_ℤ m) (int_min sl (pos 0)) (int_max (neg_ℤ k) (int_min a (pos 0)))
    (let first = max_first (neg_ℤ k) (int_min a (pos 0)) in omega (arith, ints))
    (let second = max_second (neg_ℤ k) (int_min a (pos 0)) in let less : int_min sl (pos 0) ≤ℤ int_min a (pos 0) = grind (arith, ints) in omega (arith, ints))

high_within : (sh b m k : ℤ) → b ≤ℤ sh → k ≤ℤ m → int_min k (int_max b (pos 0)) ≤ℤ int_min m (int_max sh (pos 0))
high_within sh b m k p q =
    let more : int_max b (pos 0) ≤ℤ int_max sh (pos 0) = grind (arith, ints) in
    both k (int_max b (pos 0)) m (int_max sh (pos 0)) q more
  where
    both : (x y z w : ℤ) → x ≤ℤ z → y ≤ℤ w → int_min x y ≤ℤ int_min z w
    both x y z w h i = grind (arith, ints)

module _ (s t : Span) (m : ℤ) (fits : FitsSpan t) (most : m ≡ greatest_size t -ℤ pos 1) (not_below : pos 0 ≤ℤ m) where
  abbrev size : Ext → Ext → Ext
  size c d = greater (Fin (pos 0)) (greater (size_less_one c) (size_less_one d))

  abbrev Inside : Ext → Ext → Ext → Ext → Type 0
  Inside a b c d = AtMost (Fin s.lo) a → AtMost b (Fin s.hi) → AtMost (Fin t.lo) c → AtMost d (Fin t.hi) → IsTrue (holds_number c d) → AtMost (Fin (ruled s m).lo) (low_remainder (size c d) a) × AtMost (high_remainder (size c d) b) (Fin (ruled s m).hi)

  numbers_inside : (a b c d : ℤ) → Inside (Fin a) (Fin b) (Fin c) (Fin d)
  numbers_inside a b c d p q i j held =
      let order = le-from_int_le c d held in
      let low : t.lo ≤ℤ c = i in
      let high : d ≤ℤ t.hi = j in
      let k = int_max (pos 0) (int_max (less_one c) (less_one d)) in
      let sizes = max_least (pos 0) (int_max (less_one c) (less_one d)) m not_below
      (max_least (less_one c) (less_one d) m (less_one_between t.lo t.hi c m low (omega (arith, ints)) most) (less_one_between t.lo t.hi d m (omega (arith, ints)) high most)) in
      let negated : low_end (neg_ℤ k) ≡ Fin (neg_ℤ k) = low_end-fits (neg_ℤ k) (negation_fits k m (greatest_size t) (max_first (pos 0) (int_max (less_one c) (less_one d))) sizes most (max_fits t.lo t.hi fits.low fits.high)) in (
        subst (λ (e : Ext). AtMost (Fin (ruled s m).lo) (greater e (Fin (int_min a (pos 0))))) (sym negated) (low_within s.lo a m k p sizes),
        high_within s.hi b m k q sizes,
      )

  ends_inside : (a b : Interval) → IsWithin s a → IsWithin t b → AtMost (Fin (ruled s m).lo) (low_remainder (greatest_remainder b) (least_end a)) × AtMost (high_remainder (greatest_remainder b) (greatest_end a)) (Fin (ruled s m).hi)
  ends_inside a b p q =
      let finite_a = within_finite s a p in
      let finite_b = within_finite t b q in
      on_numbers Inside numbers_inside (least_end a) (greatest_end a) (least_end b) (greatest_end b) finite_a.0 finite_a.1 finite_b.0 finite_b.1 p.0 p.1 q.0 q.1 b.holds

-- ---- the remainders of two intervals

pub low_is : (m most n l a lo : Ext) → m ≡ most → n ≡ rounded_low (negation m) → l ≡ lesser a (Fin (pos 0)) → lo ≡ greater n l → lo ≡ low_remainder most a
low_is m most n l a lo e f g h = h ∙ ap (λ v. greater v l) (f ∙ ap (λ v. rounded_low (negation v)) e) ∙ ap (greater (rounded_low (negation most))) g

pub high_is : (m most l b hi : Ext) → m ≡ most → l ≡ greater b (Fin (pos 0)) → hi ≡ lesser m l → hi ≡ high_remainder most b
high_is m most l b hi e f g = g ∙ ap (λ v. lesser v l) e ∙ ap (lesser most) f

-- 0 is always between the ends
pub zero_between : (a b : Interval) → IsTrue (holds_number (low_remainder (greatest_remainder b) (least_end a)) (high_remainder (greatest_remainder b) (greatest_end a)))
zero_between a b =
    let m = greatest_remainder b in
    let most : AtMost (Fin (pos 0)) m = greater_first (Fin (pos 0)) (greater (size_less_one (least_end b)) (size_less_one (greatest_end b))) in
    holds_number_from (low_remainder m (least_end a)) (high_remainder m (greatest_end a)) (pos 0)
    (Below-from_at_most _ (pos 0) (greater_least (Fin (pos 0)) (rounded_low (negation m)) (lesser (least_end a) (Fin (pos 0)))
    (AtMost_trans (rounded_low (negation m)) (negation m) (Fin (pos 0)) (rounded_low_below (negation m)) (negation_falls (Fin (pos 0)) m most))
    (lesser_second (least_end a) (Fin (pos 0)))))
    (Above-from_at_most _ (pos 0) (lesser_greatest (Fin (pos 0)) m (greater (greatest_end a) (Fin (pos 0))) most (greater_second (greatest_end a) (Fin (pos 0)))))

pub holds_remainders : (a b r : Interval) → least_end r ≡ low_remainder (greatest_remainder b) (least_end a) → greatest_end r ≡ high_remainder (greatest_remainder b) (greatest_end a) → HoldsRemainders a b r
holds_remainders a b r low high = record {
  holds = λ x y p q ne.
      let between = remainder_between a b x y p q ne in
      (subst (λ (e : Ext). Below e (int_rem x y)) (sym low) between.0, subst (λ (e : Ext). Above e (int_rem x y)) (sym high) between.1);
  plain = λ s t u p fits q e.
      let rule = rule_of s t u e in
      let inside = ends_inside s t _ fits rule.most rule.not_below a b p q in
      subst (λ (v : Span). IsWithin v r) rule.is
      (moved (ruled s (greatest_size t -ℤ pos 1)) inside);
}
  where
    moved : (v : Span) → AtMost (Fin v.lo) (low_remainder (greatest_remainder b) (least_end a)) × AtMost (high_remainder (greatest_remainder b) (greatest_end a)) (Fin v.hi) → IsWithin v r
    moved v inside = (subst (λ (e : Ext). AtMost (Fin v.lo) e) (sym low) inside.0, subst (λ (e : Ext). AtMost e (Fin v.hi)) (sym high) inside.1)

-- ---- points

-- a remainder lies in the span that the rule leaves
pub remainder_within : (s t u : Span) (x y : ℤ) → FitsSpan t → IsBetween s.lo s.hi x → IsBetween t.lo t.hi y → y ≢ pos 0 → remainders s t ≡ Some u → IsBetween u.lo u.hi (int_rem x y)
remainder_within s t u x y fits p q ne e =
    let rule = rule_of s t u e in
    let rest = remainder_is x y ne in
    let size = less_one_between t.lo t.hi y (greatest_size t -ℤ pos 1) q.0 q.1 refl in
    subst (λ (v : Span). IsBetween v.lo v.hi (int_rem x y)) rule.is (
      max_least (neg_ℤ (greatest_size t -ℤ pos 1)) (int_min s.lo (pos 0)) (int_rem x y)
          (negated _ _ _ size rest.size_low) (lower s.lo x (int_rem x y) p.0 rest.low),
      min_greatest (greatest_size t -ℤ pos 1) (int_max s.hi (pos 0)) (int_rem x y)
          (omega (arith, ints, size, rest.size_high)) (upper s.hi x (int_rem x y) p.1 rest.high),
    )
  where
    negated : (k m n : ℤ) → k ≤ℤ m → neg_ℤ k ≤ℤ n → neg_ℤ m ≤ℤ n
    negated k m n h i = omega (arith, ints)

    lower : (l x n : ℤ) → l ≤ℤ x → int_min x (pos 0) ≤ℤ n → int_min l (pos 0) ≤ℤ n
    lower l x n h i = grind (arith, ints)

    upper : (l x n : ℤ) → x ≤ℤ l → n ≤ℤ int_max x (pos 0) → n ≤ℤ int_max l (pos 0)
    upper l x n h i = grind (arith, ints)

    min_greatest : (x y m : ℤ) → m ≤ℤ x → m ≤ℤ y → m ≤ℤ int_min x y
    min_greatest x y m h k = grind (arith, ints)

-- the remainder of two points
pub carries_point : (a b r : Interval) (x y : ℤ) → IsPoint a x → IsPoint b y → y ≢ pos 0 → IsPoint r (int_rem x y) → Carries Rem a b r
carries_point a b r x y at_x at_y ne at_r = record {
  holds = λ v w n p q e. subst (λ (z : ℤ). Admits r z) (value v w n (only_number a x v at_x p) (only_number b y w at_y q) e) (has_number r (int_rem x y) at_r);
  point = λ v w n p q e f. subst (λ (z : ℤ). IsPoint r z) (value v w n (same_point a x v at_x p) (same_point b y w at_y q) e) at_r;
  plain = λ s t u not_by_zero fits_s p fits_t q e f.
      let within = remainder_within s t u x y fits_t (within_number s a x p (has_number a x at_x)) (within_number t b y q (has_number b y at_y)) ne e in
      (subst (λ (v : Ext). AtMost (Fin u.lo) v) (sym at_r.0) within.0, subst (λ (v : Ext). AtMost v (Fin u.hi)) (sym at_r.1) within.1);
}
  where
    value : (v w n : ℤ) → v ≡ x → w ≡ y → binary_value Rem v w ≡ Some n → int_rem x y ≡ n
    value v w n e f g = (by_not_zero (int_rem x y) n y (ap (λ z. binary_value Rem z y) (sym e) ∙ ap (binary_value Rem v) (sym f) ∙ g)).1

-- the remainders of others
pub carries_remainders : (a b r : Interval) → ((x y : ℤ) → IsPoint a x → IsPoint b y → y ≢ pos 0 → ⊥) → HoldsRemainders a b r → Carries Rem a b r
carries_remainders a b r others remainders = record {
  holds = λ x y n p q e. let value = by_not_zero (int_rem x y) n y e in subst (λ (z : ℤ). Admits r z) value.1 (remainders.holds x y p q value.0);
  point = λ x y n p q e f. let value = by_not_zero (int_rem x y) n y e in absurd (others x y p q value.0);
  plain = λ s t u not_by_zero fits_s p fits_t q e f. remainders.plain s t u p fits_t q e;
}

-- ---- dividends that are smaller than each divisor

-- a number is its own remainder by one of greater size
rem_of_smaller : (x y : ℤ) (size : ℤ) → size <ℤ pos 0 → (y ≤ℤ size) ⊎ (neg_ℤ size ≤ℤ y) → size <ℤ x → x <ℤ neg_ℤ size → int_rem x y ≡ x
rem_of_smaller (pos a) (pos b) size h far low high = ap pos (mod-eq_of_lt (⊎_elim (λ (l : pos b ≤ℤ size). omega (arith, ints)) (λ (l : neg_ℤ size ≤ℤ pos b). omega (arith, ints)) far))
rem_of_smaller (pos a) (negsuc b) size h far low high = ap pos (mod-eq_of_lt (⊎_elim (λ (l : negsuc b ≤ℤ size). omega (arith, ints)) (λ (l : neg_ℤ size ≤ℤ negsuc b). omega (arith, ints)) far))
rem_of_smaller (negsuc a) (pos b) size h far low high = ap (λ (m : ℕ). neg_ℤ (pos m)) (mod-eq_of_lt (⊎_elim (λ (l : pos b ≤ℤ size). omega (arith, ints)) (λ (l : neg_ℤ size ≤ℤ pos b). omega (arith, ints)) far))
rem_of_smaller (negsuc a) (negsuc b) size h far low high = ap (λ (m : ℕ). neg_ℤ (pos m)) (mod-eq_of_lt (⊎_elim (λ (l : negsuc b ≤ℤ size). omega (arith, ints)) (λ (l : neg_ℤ size ≤ℤ negsuc b). omega (arith, ints)) far))

-- so it is where both ends are of less size
pub rem_between : (a b : Interval) (lo hi size u v : ℤ) → least_end a ≡ Fin lo → greatest_end a ≡ Fin hi → size <ℤ pos 0 → ((y : ℤ) → Admits b y → (y ≤ℤ size) ⊎ (neg_ℤ size ≤ℤ y)) → u ≤ℤ lo → hi ≤ℤ neg_ℤ v → size <ℤ u → size <ℤ v → (x y : ℤ) → Admits a x → Admits b y → int_rem x y ≡ x
rem_between a b lo hi size u v at_lo at_hi negative far low high less_low less_high x y p q =
    let above : lo ≤ℤ x = subst (λ (e : Ext). Below e x) at_lo p.0 in
    let below : x ≤ℤ hi = subst (λ (e : Ext). Above e x) at_hi p.1 in
    rem_of_smaller x y size negative (far y q) (omega (arith, ints)) (omega (arith, ints))

-- what is left of the loose bounds inside the dividends
pub narrowed : (a b loose r : Interval) → ((x y : ℤ) → Admits a x → Admits b y → int_rem x y ≡ x) → HoldsRemainders a b loose → ((n : ℤ) → Admits loose n → Below (least_end a) n → Above (greatest_end a) n → Admits r n) → (least_end r ≡ greater (least_end loose) (least_end a)) × (greatest_end r ≡ lesser (greatest_end loose) (greatest_end a)) → HoldsRemainders a b r
narrowed a b loose r same whole keeps ends = record {
  holds = λ x y p q ne. let e = same x y p q in keeps (int_rem x y) (whole.holds x y p q ne) (subst (λ (z : ℤ). Below (least_end a) z) (sym e) p.0) (subst (λ (z : ℤ). Above (greatest_end a) z) (sym e) p.1);
  plain = λ s t u p f q e. let within = whole.plain s t u p f q e in (
    AtMost_trans (Fin u.lo) (least_end loose) (least_end r) within.0 (subst (λ (x : Ext). AtMost (least_end loose) x) (sym ends.0) (greater_first (least_end loose) (least_end a))),
    AtMost_trans (greatest_end r) (greatest_end loose) (Fin u.hi) (subst (λ (x : Ext). AtMost x (greatest_end loose)) (sym ends.1) (lesser_first (greatest_end loose) (greatest_end a))) within.1,
  );
}
