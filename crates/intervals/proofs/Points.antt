-- What the operators on bits carry over to intervals: they are exact on points, and leave the rest open.
use Rattle.std.proofs.Common.{◌≡◌, ℤ, Option, Some, None, refl, sym, ◌∙◌, ap, subst, FitsSigned, true, false}
use Rattle.std.specs.Prelude.{Bool, ◌&&◌, if◌then◌else◌}
use Rattle.std.specs.Ordering.{int_eq}
use Rattle.std.proofs.lemmas.Bool.Decides.{Decides-int_eq}
use mir.Syntax.{w128}
use Rattle.num_api.specs.declared.expr.NOp.{NOp}
use Rattle.num_api.specs.declared.expr.NOp.TheVariants.{Neg, Not, Add, Sub, Mul, Quot, Rem, Shl, Shr, And, Or, Xor, Eq, Ne, Lt, Le}
use Rattle.num_api.specs.Value.{binary_value}
use Rattle.num_api.specs.Spans.{Span, FitsSpan, point, option_point, of_points, binary_span}
use Rattle.intervals.specs.declared.Interval.{Interval}
use Rattle.intervals.specs.Interval.{Admits, IsPoint, IsWithin}
use Rattle.intervals.specs.Operations.{Carries, IsBitwise}
use Rattle.intervals.proofs.Inside.{within_point, point_within, only_number, same_point, has_number}

-- ---- the rule

bit_rule : (op : NOp) → IsBitwise op → (s t : Span) → binary_span op s t ≡ option_point (of_points (binary_value op) s t)
bit_rule And bits s t = refl
bit_rule Or bits s t = refl
bit_rule Xor bits s t = refl
bit_rule Shl bits s t = refl
bit_rule Shr bits s t = refl
bit_rule Neg bits s t = absurd bits
bit_rule Not bits s t = absurd bits
bit_rule Add bits s t = absurd bits
bit_rule Sub bits s t = absurd bits
bit_rule Mul bits s t = absurd bits
bit_rule Quot bits s t = absurd bits
bit_rule Rem bits s t = absurd bits
bit_rule Eq bits s t = absurd bits
bit_rule Ne bits s t = absurd bits
bit_rule Lt bits s t = absurd bits
bit_rule Le bits s t = absurd bits

-- where it leaves something, both spans are points, and it is their value
record IsValue (op : NOp) (s t u : Span) (m : ℤ) : Type 0 where
  first : s.lo ≡ s.hi
  second : t.lo ≡ t.hi
  value : binary_value op s.lo t.lo ≡ Some m
  is : point m ≡ u

both_true : (p q : Bool) → (p && q) ≡ true → (p ≡ true) × (q ≡ true)
both_true true true e = (refl, refl)
both_true true false e = cc
both_true false q e = cc

some_point : (o : Option ℤ) (u : Span) → option_point o ≡ Some u → (m : ℤ) × (o ≡ Some m) × (point m ≡ u)
some_point None u e = cc
some_point (Some m) u e = (m, refl, cc)

by_points : (b : Bool) (o : Option ℤ) (m : ℤ) → (if b then o else None) ≡ Some m → (b ≡ true) × (o ≡ Some m)
by_points true o m e = (refl, e)
by_points false o m e = cc

value_of_rule : (op : NOp) → IsBitwise op → (s t u : Span) → binary_span op s t ≡ Some u → (m : ℤ) × IsValue op s t u m
value_of_rule op bits s t u e =
    let there = some_point (of_points (binary_value op) s t) u (sym (bit_rule op bits s t) ∙ e) in
    let at_points = by_points (int_eq s.lo s.hi && int_eq t.lo t.hi) (binary_value op s.lo t.lo) there.0 there.1 in
    let tests = both_true (int_eq s.lo s.hi) (int_eq t.lo t.hi) at_points.0 in
    (there.0, record { first = (Decides-int_eq s.lo s.hi).0 tests.0; second = (Decides-int_eq t.lo t.hi).0 tests.1; value = at_points.1; is = there.2 })

-- ---- intervals

module _ (op : NOp) (bits : IsBitwise op) (a b r : Interval) where
  same_value : (x y v w m : ℤ) → v ≡ x → w ≡ y → binary_value op v w ≡ Some m → binary_value op x y ≡ Some m
  same_value x y v w m e f g = ap (λ z. binary_value op z y) (sym e) ∙ ap (binary_value op v) (sym f) ∙ g

  some_same : (x y n m : ℤ) → binary_value op x y ≡ Some n → binary_value op x y ≡ Some m → n ≡ m
  some_same x y n m e f = let same : Some n ≡ Some m = sym e ∙ f in cc

  -- both are points, and there is a value
  pub carries_value : (x y n : ℤ) → IsPoint a x → IsPoint b y → binary_value op x y ≡ Some n → IsPoint r n → Carries op a b r
  carries_value x y n at_x at_y is at_r = record {
    holds = λ v w m p q e. subst (λ (z : ℤ). Admits r z) (some_same x y n m is (same_value x y v w m (only_number a x v at_x p) (only_number b y w at_y q) e)) (has_number r n at_r);
    point = λ v w m p q e f. subst (λ (z : ℤ). IsPoint r z) (some_same x y n m is (same_value x y v w m (same_point a x v at_x p) (same_point b y w at_y q) e)) at_r;
    plain = λ s t u not_by_zero fits_s p fits_t q e f.
        let rule = value_of_rule op bits s t u e in
        let at_s = same_point a x s.lo at_x (within_point s a rule.1.first p) in
        let at_t = same_point b y t.lo at_y (within_point t b rule.1.second q) in
        let same = some_same x y n rule.0 is (same_value x y s.lo t.lo rule.0 at_s at_t rule.1.value) in
        subst (λ (v : Span). IsWithin v r) rule.1.is (subst (λ (z : ℤ). IsWithin (point z) r) same (point_within r n at_r));
  }

  -- the interval holds all values, and no two points of them have one that is an i128
  pub carries_values : ((x y n : ℤ) → Admits a x → Admits b y → binary_value op x y ≡ Some n → Admits r n) → ((x y n : ℤ) → IsPoint a x → IsPoint b y → binary_value op x y ≡ Some n → FitsSigned w128 n → ⊥) → Carries op a b r
  carries_values all none = record {
    holds = all;
    point = λ v w m p q e f. absurd (none v w m p q e f);
    plain = λ s t u not_by_zero fits_s p fits_t q e f.
        let rule = value_of_rule op bits s t u e in
        let fits : FitsSigned w128 rule.0 = (subst (λ (v : Span). FitsSpan v) (sym rule.1.is) f).low in
        absurd (none s.lo t.lo rule.0 (within_point s a rule.1.first p) (within_point t b rule.1.second q) rule.1.value fits);
  }
