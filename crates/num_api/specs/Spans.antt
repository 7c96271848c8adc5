-- Ranges from one whole number to another, and what the plain rule makes of them, operator by operator.
use Rattle.std.specs.Prelude.{ℤ, ◌≡◌, pos, negsuc, ◌+ℤ◌, ◌-ℤ◌, ◌*ℤ◌, neg_ℤ, int_div, Option, Some, None, Bool, not, ◌&&◌, ◌||◌, if◌then◌else◌}
use Rattle.std.specs.Int.{int_min, int_max}
use Rattle.std.specs.Int.RustNames.{int_le, int_lt, FitsSigned}
use Rattle.std.specs.Ordering.{int_eq}
use mir.Syntax.{w128}
use Rattle.ext_int.specs.declared.Ext.{Ext}
use Rattle.ext_int.specs.declared.Ext.TheVariants.{Fin}
use Rattle.num_api.specs.declared.message.Range.{Range}
use Rattle.num_api.specs.declared.expr.NOp.{NOp}
use Rattle.num_api.specs.declared.expr.NOp.TheVariants.{Neg, Not, Add, Sub, Mul, Quot, Rem, Shl, Shr, And, Or, Xor, Eq, Ne, Lt, Le}
use Rattle.num_api.specs.Ranges.{IsPoint}
use Rattle.num_api.specs.Value.{truth, binary_value}

-- the whole numbers from lo to hi
pub record Span : Type 0 where
  pub lo : ℤ
  pub hi : ℤ

abbrev pub span : ℤ → ℤ → Span
span a b = record { lo = a; hi = b }

abbrev pub point : ℤ → Span
point n = span n n

abbrev pub range_of : Span → Range
range_of s = record { lo = Fin s.lo; hi = Fin s.hi }

-- both ends are i128 numbers
pub record FitsSpan (s : Span) : Type 0 where
  pub low : FitsSigned w128 s.lo
  pub high : FitsSigned w128 s.hi

-- the span of a range, where both ends are numbers and it holds one
abbrev pub span_between : Ext → Ext → Option Span
span_between (Fin a) (Fin b) = if int_le a b then Some (span a b) else None
span_between a b = None

-- the least span that holds two, either of which may be absent
abbrev pub joined : Option Span → Option Span → Option Span
joined None t = t
joined (Some s) None = Some s
joined (Some s) (Some t) = Some (span (int_min s.lo t.lo) (int_max s.hi t.hi))

-- the least span that holds the operation's values at the ends of two spans
abbrev pub corners : (ℤ → ℤ → ℤ) → Span → Span → Span
corners op s t =
    span (int_min (int_min (op s.lo t.lo) (op s.lo t.hi)) (int_min (op s.hi t.lo) (op s.hi t.hi)))
    (int_max (int_max (op s.lo t.lo) (op s.lo t.hi)) (int_max (op s.hi t.lo) (op s.hi t.hi)))

-- ---- quotients

-- the numbers of a span that are below 0, and those that are above
abbrev pub below_zero : Span → Option Span
below_zero s = if int_lt s.lo (pos 0) then Some (span s.lo (int_min s.hi (negsuc 0))) else None

abbrev pub above_zero : Span → Option Span
above_zero s = if int_lt (pos 0) s.hi then Some (span (int_max s.lo (pos 1)) s.hi) else None

-- the quotients by the divisors of one sign
abbrev pub quotients_by : Span → Option Span → Option Span
quotients_by s None = None
quotients_by s (Some t) = Some (corners int_div s t)

-- the least span that holds the quotients by the divisors other than 0, where there is one
abbrev pub quotients : Span → Span → Option Span
quotients s t = joined (quotients_by s (below_zero t)) (quotients_by s (above_zero t))

-- ---- remainders

-- the greatest size of a number of the span
abbrev pub greatest_size : Span → ℤ
greatest_size s = int_max (neg_ℤ s.lo) s.hi

-- by divisors of size at most m + 1 they lie between -m and m, no further from 0 than the dividend and on its side of 0;
-- there is none where 0 is the only divisor
abbrev pub remainders : Span → Span → Option Span
remainders s t =
    let m = greatest_size t -ℤ pos 1 in
    if int_lt m (pos 0) then None else Some (span (int_max (neg_ℤ m) (int_min s.lo (pos 0))) (int_min m (int_max s.hi (pos 0))))

-- ---- points and tests

-- the value for points, and nothing for other spans
abbrev pub of_points : (ℤ → ℤ → Option ℤ) → Span → Span → Option ℤ
of_points op s t = if int_eq s.lo s.hi && int_eq t.lo t.hi then op s.lo t.lo else None

abbrev pub option_point : Option ℤ → Option Span
option_point None = None
option_point (Some n) = Some (point n)

-- 0, 1 or both, as the test may fail or hold
abbrev pub tests : Bool → Bool → Span
tests may_hold may_fail = span (truth (not may_fail)) (truth may_hold)

-- some number of the first span and some of the second are equal; some two are not; and so for the order
abbrev pub may_equal : Span → Span → Bool
may_equal s t = int_le s.lo t.hi && int_le t.lo s.hi

abbrev pub may_differ : Span → Span → Bool
may_differ s t = int_lt s.lo t.hi || int_lt t.lo s.hi

abbrev pub may_be_less : Span → Span → Bool
may_be_less s t = int_lt s.lo t.hi

abbrev pub may_be_at_most : Span → Span → Bool
may_be_at_most s t = int_le s.lo t.hi

-- ---- the rule of each operator; nothing is where it leaves no number or gives the range of all numbers

abbrev pub unary_span : NOp → Span → Option Span
unary_span Neg s = Some (span (neg_ℤ s.hi) (neg_ℤ s.lo))
unary_span Not s = Some (tests (may_equal s (point (pos 0))) (may_differ s (point (pos 0))))
unary_span op s = None

abbrev pub binary_span : NOp → Span → Span → Option Span
binary_span Neg s t = None
binary_span Not s t = None
binary_span Add s t = Some (span (s.lo +ℤ t.lo) (s.hi +ℤ t.hi))
binary_span Sub s t = Some (span (s.lo -ℤ t.hi) (s.hi -ℤ t.lo))
binary_span Mul s t = Some (corners ◌*ℤ◌ s t)
binary_span Quot s t = quotients s t
binary_span Rem s t = remainders s t
binary_span Shl s t = option_point (of_points (binary_value Shl) s t)
binary_span Shr s t = option_point (of_points (binary_value Shr) s t)
binary_span And s t = option_point (of_points (binary_value And) s t)
binary_span Or s t = option_point (of_points (binary_value Or) s t)
binary_span Xor s t = option_point (of_points (binary_value Xor) s t)
binary_span Eq s t = Some (tests (may_equal s t) (may_differ s t))
binary_span Ne s t = Some (tests (may_differ s t) (may_equal s t))
binary_span Lt s t = Some (tests (may_be_less s t) (may_be_at_most t s))
binary_span Le s t = Some (tests (may_be_at_most s t) (may_be_less t s))

-- the operation is no quotient by what is known to be 0: that has no value, whatever the dividend
abbrev pub IsNotByZero : NOp → Range → Type 0
IsNotByZero op divisor = op ≡ Quot → IsPoint divisor (pos 0) → ⊥
