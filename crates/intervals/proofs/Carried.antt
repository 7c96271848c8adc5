-- What the operations on numbers carry over to intervals.
use Rattle.std.proofs.Common.{◌≡◌, ℤ, ◌+ℤ◌, ◌-ℤ◌, ◌*ℤ◌, neg_ℤ, ◌≤ℤ◌, Some, arith, refl, sym, ◌∙◌, subst, FitsSigned}
use Rattle.std.proofs.lemmas.Int.{ints}
use mir.Syntax.{w128}
use Rattle.ext_int.specs.declared.Ext.TheVariants.{Fin}
use Rattle.ext_int.specs.Ext.{product}
use Rattle.ext_int.proofs.Corners.{AnyEnd, corners_low, corners_high}
use Rattle.ext_int.proofs.Products.{product_turns, product_turns_first}
use Rattle.num_api.specs.declared.expr.NOp.{NOp}
use Rattle.num_api.specs.declared.expr.NOp.TheVariants.{Neg, Add, Sub, Mul}
use Rattle.num_api.specs.Value.{binary_value}
use Rattle.num_api.specs.Spans.{Span, span, binary_span, corners}
use Rattle.intervals.specs.declared.Interval.{Interval}
use Rattle.intervals.specs.Interval.{Admits, IsPoint, IsFinite, IsBetween, LiesBetween}
use Rattle.intervals.specs.Operations.{CarriesOne, Carries}
use Rattle.intervals.proofs.Inside.{within_number, within_finite}

pub some_same : {A : Type 0} (a b : A) → Some a ≡ Some b → a ≡ b
some_same a b e = cc

-- ---- sums, differences and products

-- the interval holds the results of the operation, is exact on points, and least
pub record IsTotal (f : ℤ → ℤ → ℤ) (a b r : Interval) : Type 0 where
  pub keeps : (x y : ℤ) → Admits a x → Admits b y → Admits r (f x y)
  pub point : (x y : ℤ) → IsPoint a x → IsPoint b y → FitsSigned w128 (f x y) → IsPoint r (f x y)
  pub least : (l h : ℤ) → FitsSigned w128 l → FitsSigned w128 h → IsFinite a → IsFinite b → ((x y : ℤ) → Admits a x → Admits b y → IsBetween l h (f x y)) → LiesBetween l h r

-- the span holds the operation's results on the numbers of two spans
abbrev HoldsAll : (ℤ → ℤ → ℤ) → (Span → Span → Span) → Type 0
HoldsAll f rule = (s t : Span) (x y : ℤ) → IsBetween s.lo s.hi x → IsBetween t.lo t.hi y → IsBetween (rule s t).lo (rule s t).hi (f x y)

carries_total : (op : NOp) (f : ℤ → ℤ → ℤ) (rule : Span → Span → Span) (a b r : Interval) → ((x y : ℤ) → binary_value op x y ≡ Some (f x y)) → ((s t : Span) → binary_span op s t ≡ Some (rule s t)) → HoldsAll f rule → IsTotal f a b r → Carries op a b r
carries_total op f rule a b r value plain all total = record {
  holds = λ x y n p q e. subst (λ (z : ℤ). Admits r z) (some_same _ _ (sym (value x y) ∙ e)) (total.keeps x y p q);
  point = λ x y n p q e g.
      let same : f x y ≡ n = some_same _ _ (sym (value x y) ∙ e) in
      subst (λ (z : ℤ). IsPoint r z) same (total.point x y p q (subst (λ (z : ℤ). FitsSigned w128 z) (sym same) g));
  plain = λ s t u not_by_zero fits_s p fits_t q e g.
      let same : rule s t ≡ u = some_same _ _ (sym (plain s t) ∙ e) in
      total.least u.lo u.hi g.low g.high (within_finite s a p) (within_finite t b q)
      (λ x y i j. subst (λ (v : Span). IsBetween v.lo v.hi (f x y)) same (all s t x y (within_number s a x p i) (within_number t b y q j)));
}

pub carries_sum : (a b r : Interval) → IsTotal (λ x y. x +ℤ y) a b r → Carries Add a b r
carries_sum a b r = carries_total Add (λ x y. x +ℤ y) (λ s t. span (s.lo +ℤ t.lo) (s.hi +ℤ t.hi)) a b r (λ x y. refl) (λ s t. refl)
    (λ s t x y p q. (sum_low s.lo t.lo x y p.0 q.0, sum_low x y s.hi t.hi p.1 q.1))
  where
    sum_low : (a b x y : ℤ) → a ≤ℤ x → b ≤ℤ y → (a +ℤ b) ≤ℤ (x +ℤ y)
    sum_low a b x y h k = omega (arith, ints)

pub carries_difference : (a b r : Interval) → IsTotal (λ x y. x -ℤ y) a b r → Carries Sub a b r
carries_difference a b r = carries_total Sub (λ x y. x -ℤ y) (λ s t. span (s.lo -ℤ t.hi) (s.hi -ℤ t.lo)) a b r (λ x y. refl) (λ s t. refl)
    (λ s t x y p q. (difference_low s.lo t.hi x y p.0 q.1, difference_low x y s.hi t.lo p.1 q.0))
  where
    difference_low : (a b x y : ℤ) → a ≤ℤ x → y ≤ℤ b → (a -ℤ b) ≤ℤ (x -ℤ y)
    difference_low a b x y h k = omega (arith, ints)

pub carries_product : (a b r : Interval) → IsTotal (λ x y. x *ℤ y) a b r → Carries Mul a b r
carries_product a b r = carries_total Mul (λ x y. x *ℤ y) (λ s t. corners (λ x y. x *ℤ y) s t) a b r (λ x y. refl) (λ s t. refl)
    (λ s t x y p q. (
      corners_low product AnyEnd product_turns (λ e _. product_turns_first e) (Fin s.lo) (Fin s.hi) (Fin t.lo) (Fin t.hi) (Fin x) (Fin y) p.0 p.1 q.0 q.1 tt tt tt,
      corners_high product AnyEnd product_turns (λ e _. product_turns_first e) (Fin s.lo) (Fin s.hi) (Fin t.lo) (Fin t.hi) (Fin x) (Fin y) p.0 p.1 q.0 q.1 tt tt tt,
    ))

-- ---- negations

pub record IsNegation (a r : Interval) : Type 0 where
  pub keeps : (x : ℤ) → Admits a x → Admits r (neg_ℤ x)
  pub point : (x : ℤ) → IsPoint a x → FitsSigned w128 (neg_ℤ x) → IsPoint r (neg_ℤ x)
  pub least : (l h : ℤ) → FitsSigned w128 l → FitsSigned w128 h → IsFinite a → ((x : ℤ) → Admits a x → IsBetween l h (neg_ℤ x)) → LiesBetween l h r

negation_low : (x y : ℤ) → x ≤ℤ y → neg_ℤ y ≤ℤ neg_ℤ x
negation_low x y h = omega (arith, ints)

pub carries_negation : (a r : Interval) → IsNegation a r → CarriesOne Neg a r
carries_negation a r negation = record {
  holds = λ x n p e. subst (λ (z : ℤ). Admits r z) (some_same _ _ e) (negation.keeps x p);
  point = λ x n p e g.
      let same : neg_ℤ x ≡ n = some_same _ _ e in
      subst (λ (z : ℤ). IsPoint r z) same (negation.point x p (subst (λ (z : ℤ). FitsSigned w128 z) (sym same) g));
  plain = λ s u fits p e g.
      let same : span (neg_ℤ s.hi) (neg_ℤ s.lo) ≡ u = some_same _ _ e in
      negation.least u.lo u.hi g.low g.high (within_finite s a p)
      (λ x i. let there = within_number s a x p i in
      subst (λ (v : Span). IsBetween v.lo v.hi (neg_ℤ x)) same (negation_low x s.hi there.1, negation_low s.lo x there.0));
}
