-- Parts of an interval between two ends, and quotients by the parts of the divisors below and above 0.
use Rattle.std.proofs.Common.{◌≡◌, ◌≢◌, zero, suc, ℤ, pos, negsuc, ◌≤ℤ◌, ◌⊎◌, inl, inr, ⊎_elim, arith, refl, sym, subst, FitsSigned}
use Rattle.std.specs.Prelude.{Option, Some, None, IfSome, ◌↔◌, int_div}
use Rattle.std.proofs.lemmas.Int.{ints}
use mir.Syntax.{w128}
use Rattle.ext_int.specs.declared.Ext.{Ext}
use Rattle.ext_int.specs.declared.Ext.TheVariants.{Low, Fin, High}
use Rattle.ext_int.specs.Ext.{Below, Above, AtMost, IsNumber, IsPositive, IsNegative, lesser, greater}
use Rattle.ext_int.proofs.Ends.{lesser_second, greater_second}
use Rattle.ext_int.proofs.Quotients.{IsPositive_up, IsNegative_down}
use Rattle.intervals.specs.declared.Interval.{Interval}
use Rattle.intervals.specs.Interval.{Admits, IsPoint, IsFinite, IsBetween, LiesBetween, least_end, greatest_end}
use Rattle.intervals.proofs.Arithmetic.{point_between}
use Rattle.intervals.proofs.Inside.{has_number, only_number}

-- the numbers of an interval between two numbers, said by ends and by the numbers
pub cut_some : (r : Option Interval) (s : Interval) (k m lo hi : ℤ) → k ≡ lo → m ≡ hi → IfSome r (λ i. (n : ℤ) → Admits i n ↔ (Admits s n × Below (Fin k) n × Above (Fin m) n)) → IfSome r (λ i. (n : ℤ) → Admits i n ↔ (Admits s n × IsBetween lo hi n))
cut_some None s k m lo hi e f fact = fact
cut_some (Some i) s k m lo hi e f fact = λ n.
    let both = fact n in (
      λ p. let q = both.0 p in let low : k ≤ℤ n = q.1 in let high : n ≤ℤ m = q.2 in (q.0, (omega (arith, ints), omega (arith, ints))),
      λ p. let low : lo ≤ℤ n = p.1.0 in let high : n ≤ℤ hi = p.1.1 in both.1 (p.0, omega (arith, ints), omega (arith, ints)),
    )

-- ---- the two sides of 0

pub by_side : (y : ℤ) → y ≢ pos 0 → (y ≤ℤ negsuc 0) ⊎ (pos 1 ≤ℤ y)
by_side (pos zero) ne = absurd (ne refl)
by_side (pos (suc n)) ne = inr (omega (arith, ints))
by_side (negsuc n) ne = inl (omega (arith, ints))

below_not_zero : (y : ℤ) → y ≤ℤ negsuc 0 → y ≢ pos 0
below_not_zero y h e = omega (arith, ints)

above_not_zero : (y : ℤ) → pos 1 ≤ℤ y → y ≢ pos 0
above_not_zero y h e = omega (arith, ints)

-- the part is the numbers below 0, or those above it
pub record IsBelow (o i : Interval) : Type 0 where
  pub numbers : (n : ℤ) → Admits i n ↔ (Admits o n × Below Low n × Above (Fin (negsuc 0)) n)
  pub ends : (least_end i ≡ greater (least_end o) Low) × (greatest_end i ≡ lesser (greatest_end o) (Fin (negsuc 0)))

pub record IsAbove (o i : Interval) : Type 0 where
  pub numbers : (n : ℤ) → Admits i n ↔ (Admits o n × Below (Fin (pos 1)) n × Above High n)
  pub ends : (least_end i ≡ greater (least_end o) (Fin (pos 1))) × (greatest_end i ≡ lesser (greatest_end o) High)

-- there is no number below 0, or none above it
abbrev pub NoneBelow : Interval → Type 0
NoneBelow o = (n : ℤ) → Admits o n → Below Low n → Above (Fin (negsuc 0)) n → ⊥

abbrev pub NoneAbove : Interval → Type 0
NoneAbove o = (n : ℤ) → Admits o n → Below (Fin (pos 1)) n → Above High n → ⊥

greater_number : (p q : Ext) → IsNumber p → IsNumber q → IsNumber (greater p q)
greater_number Low q h k = absurd h
greater_number (Fin x) Low h k = tt
greater_number (Fin x) (Fin y) h k = tt
greater_number (Fin x) High h k = k
greater_number High q h k = absurd h

lesser_number : (p q : Ext) → IsNumber p → IsNumber q → IsNumber (lesser p q)
lesser_number Low q h k = absurd h
lesser_number (Fin x) Low h k = k
lesser_number (Fin x) (Fin y) h k = tt
lesser_number (Fin x) High h k = tt
lesser_number High q h k = absurd h

greater_low : (p : Ext) → IsNumber p → IsNumber (greater p Low)
greater_low Low h = h
greater_low (Fin x) h = tt
greater_low High h = h

lesser_high : (p : Ext) → IsNumber p → IsNumber (lesser p High)
lesser_high Low h = h
lesser_high (Fin x) h = tt
lesser_high High h = h

pub below_finite : (o i : Interval) → IsBelow o i → IsFinite o → IsFinite i
below_finite o i part finite =
    (subst IsNumber (sym part.ends.0) (greater_low (least_end o) finite.0), subst IsNumber (sym part.ends.1) (lesser_number (greatest_end o) (Fin (negsuc 0)) finite.1 tt))

pub above_finite : (o i : Interval) → IsAbove o i → IsFinite o → IsFinite i
above_finite o i part finite =
    (subst IsNumber (sym part.ends.0) (greater_number (least_end o) (Fin (pos 1)) finite.0 tt), subst IsNumber (sym part.ends.1) (lesser_high (greatest_end o) finite.1))

pub below_negative : (o i : Interval) → IsBelow o i → IsPositive (least_end i) ⊎ IsNegative (greatest_end i)
below_negative o i part =
    inr (subst IsNegative (sym part.ends.1) (IsNegative_down _ (Fin (negsuc 0)) (lesser_second (greatest_end o) (Fin (negsuc 0))) tt))

pub above_positive : (o i : Interval) → IsAbove o i → IsPositive (least_end i) ⊎ IsNegative (greatest_end i)
above_positive o i part =
    inl (subst IsPositive (sym part.ends.0) (IsPositive_up (Fin (pos 1)) _ (greater_second (least_end o) (Fin (pos 1))) tt))

-- ---- what a quotient keeps, and that it is the least

-- the quotients by the divisors that are not 0 lie between the ends, which are no wider than two i128s that hold all of them
pub record IsQuotient (s o : Interval) (lo hi : Ext) : Type 0 where
  pub keeps : (x y : ℤ) → Admits s x → Admits o y → y ≢ pos 0 → Below lo (int_div x y) × Above hi (int_div x y)
  pub least : (l h d : ℤ) → FitsSigned w128 l → FitsSigned w128 h → IsFinite s → IsFinite o → Admits o d → d ≢ pos 0 → ((x y : ℤ) → Admits s x → Admits o y → y ≢ pos 0 → IsBetween l h (int_div x y)) → AtMost (Fin l) lo × AtMost hi (Fin h)

-- the same where no divisor is 0
pub record Divides (s o r : Interval) : Type 0 where
  pub keeps : (x y : ℤ) → Admits s x → Admits o y → Admits r (int_div x y)
  pub least : (l h : ℤ) → FitsSigned w128 l → FitsSigned w128 h → IsFinite s → IsFinite o → ((x y : ℤ) → Admits s x → Admits o y → IsBetween l h (int_div x y)) → LiesBetween l h r

finite_point : (i : Interval) (n : ℤ) → IsPoint i n → IsFinite i
finite_point i n p = (subst IsNumber (sym p.0) tt, subst IsNumber (sym p.1) tt)

same_quotient : (x y u v : ℤ) → u ≡ x → v ≡ y → IsBetween (int_div x y) (int_div x y) (int_div u v)
same_quotient x y u v e f =
    let self : IsBetween (int_div x y) (int_div x y) (int_div x y) = (omega (arith, ints), omega (arith, ints)) in
    rw (e, f) self

-- so at two points it is a point
pub quotient_point : (s o : Interval) (lo hi : Ext) → IsQuotient s o lo hi → (x y : ℤ) → IsPoint s x → IsPoint o y → y ≢ pos 0 → FitsSigned w128 (int_div x y) → (lo ≡ Fin (int_div x y)) × (hi ≡ Fin (int_div x y))
quotient_point s o lo hi quotient x y p q ne fits =
    let at_x = has_number s x p in
    let at_y = has_number o y q in
    let kept = quotient.keeps x y at_x at_y ne in
    let between = quotient.least (int_div x y) (int_div x y) y fits fits (finite_point s x p) (finite_point o y q) at_y ne
    (λ u v i j _. same_quotient x y u v (only_number s x u p i) (only_number o y v q j)) in
    point_between lo hi (int_div x y) kept.0 kept.1 between.0 between.1

-- ---- quotients by the parts of the divisors

module _ (s o : Interval) where
  least_below : (b r : Interval) → IsBelow o b → Divides s b r → (l h : ℤ) → FitsSigned w128 l → FitsSigned w128 h → IsFinite s → IsFinite o → ((x y : ℤ) → Admits s x → Admits o y → y ≢ pos 0 → IsBetween l h (int_div x y)) → LiesBetween l h r
  least_below b r part by l h f g first second within =
      by.least l h f g first (below_finite o b part second)
      (λ x y p q. let there = (part.numbers y).0 q in within x y p there.0 (below_not_zero y there.2))

  least_above : (a r : Interval) → IsAbove o a → Divides s a r → (l h : ℤ) → FitsSigned w128 l → FitsSigned w128 h → IsFinite s → IsFinite o → ((x y : ℤ) → Admits s x → Admits o y → y ≢ pos 0 → IsBetween l h (int_div x y)) → LiesBetween l h r
  least_above a r part by l h f g first second within =
      by.least l h f g first (above_finite o a part second)
      (λ x y p q. let there = (part.numbers y).0 q in within x y p there.0 (above_not_zero y there.1))

  pub by_negatives : (b r : Interval) → IsBelow o b → NoneAbove o → Divides s b r → IsQuotient s o (least_end r) (greatest_end r)
  by_negatives b r part none by = record {
    keeps = λ x y p q ne. ⊎_elim
        (λ (h : y ≤ℤ negsuc 0). by.keeps x y p ((part.numbers y).1 (q, tt, h)))
        (λ (h : pos 1 ≤ℤ y). absurd (none y q h tt))
        (by_side y ne);
    least = λ l h d f g first second at_d ne within. least_below b r part by l h f g first second within;
  }

  pub by_positives : (a r : Interval) → NoneBelow o → IsAbove o a → Divides s a r → IsQuotient s o (least_end r) (greatest_end r)
  by_positives a r none part by = record {
    keeps = λ x y p q ne. ⊎_elim
        (λ (h : y ≤ℤ negsuc 0). absurd (none y q tt h))
        (λ (h : pos 1 ≤ℤ y). by.keeps x y p ((part.numbers y).1 (q, h, tt)))
        (by_side y ne);
    least = λ l h d f g first second at_d ne within. least_above a r part by l h f g first second within;
  }

  pub by_both : (b a q t r : Interval) → IsBelow o b → IsAbove o a → Divides s b q → Divides s a t → ((n : ℤ) → Admits q n → Admits r n) → ((n : ℤ) → Admits t n → Admits r n) → ((l h : ℤ) → LiesBetween l h q → LiesBetween l h t → LiesBetween l h r) → IsQuotient s o (least_end r) (greatest_end r)
  by_both b a q t r below above by_b by_a left right both = record {
    keeps = λ x y i j ne. ⊎_elim
        (λ (h : y ≤ℤ negsuc 0). left (int_div x y) (by_b.keeps x y i ((below.numbers y).1 (j, tt, h))))
        (λ (h : pos 1 ≤ℤ y). right (int_div x y) (by_a.keeps x y i ((above.numbers y).1 (j, h, tt))))
        (by_side y ne);
    least = λ l h d f g first second at_d ne within.
        both l h (least_below b q below by_b l h f g first second within) (least_above a t above by_a l h f g first second within);
  }

  pub by_none : (lo hi : Ext) → NoneBelow o → NoneAbove o → IsQuotient s o lo hi
  by_none lo hi below above = record {
    keeps = λ x y p q ne. absurd (nowhere y q ne);
    least = λ l h d f g first second at_d ne within. absurd (nowhere d at_d ne);
  }
    where
      nowhere : (y : ℤ) → Admits o y → y ≢ pos 0 → ⊥
      nowhere y q ne = ⊎_elim (λ (h : y ≤ℤ negsuc 0). below y q tt h) (λ (h : pos 1 ≤ℤ y). above y q h tt) (by_side y ne)
