-- What the operators make of intervals.
use Rattle.std.specs.Prelude.{◌≡◌, ◌≢◌, ℤ, pos, negsuc, ◌-ℤ◌, int_rem, Some, if◌then◌else◌, Bool, not}
use Rattle.std.specs.Int.RustNames.{int_lt, FitsSigned}
use mir.Syntax.{w128}
use Rattle.ext_int.specs.declared.Ext.{Ext}
use Rattle.ext_int.specs.declared.Ext.TheVariants.{Low, Fin, High}
use Rattle.ext_int.specs.Ext.{greater}
use Rattle.num_api.specs.declared.expr.NOp.{NOp}
use Rattle.num_api.specs.declared.expr.NOp.TheVariants.{Not, Shl, Shr, And, Or, Xor, Eq, Ne, Lt, Le}
use Rattle.num_api.specs.Value.{unary_value, binary_value, truth}
use Rattle.num_api.specs.Spans.{Span, FitsSpan, IsNotByZero, unary_span, binary_span, remainders}
use Rattle.intervals.specs.declared.Interval.{Interval}
use Rattle.intervals.specs.Order.{may_equal, may_differ, may_be_less, may_be_at_most}
use Rattle.intervals.specs.Interval.{Admits, IsPoint, IsWithin, ends_of, least_end, greatest_end}

-- the interval holds what the operator makes of the numbers of `a`, is exact on points, and no wider than the plain rule
pub record CarriesOne (op : NOp) (a r : Interval) : Type 0 where
  pub holds : (x n : ℤ) → Admits a x → unary_value op x ≡ Some n → Admits r n
  pub point : (x n : ℤ) → IsPoint a x → unary_value op x ≡ Some n → FitsSigned w128 n → IsPoint r n
  pub plain : (s u : Span) → FitsSpan s → IsWithin s a → unary_span op s ≡ Some u → FitsSpan u → IsWithin u r

-- the same of two operands
pub record Carries (op : NOp) (a b r : Interval) : Type 0 where
  pub holds : (x y n : ℤ) → Admits a x → Admits b y → binary_value op x y ≡ Some n → Admits r n
  pub point : (x y n : ℤ) → IsPoint a x → IsPoint b y → binary_value op x y ≡ Some n → FitsSigned w128 n → IsPoint r n
  pub plain : (s t u : Span) → IsNotByZero op (ends_of b) → FitsSpan s → IsWithin s a → FitsSpan t → IsWithin t b → binary_span op s t ≡ Some u → FitsSpan u
      → IsWithin u r

-- the operators on bits
abbrev pub IsBitwise : NOp → Type 0
IsBitwise And = Unit {0}
IsBitwise Or = Unit {0}
IsBitwise Xor = Unit {0}
IsBitwise Shl = Unit {0}
IsBitwise Shr = Unit {0}
IsBitwise op = ⊥

-- 0, 1 or both, as the test may fail or hold
pub record IsTests (may_hold may_fail : Bool) (r : Interval) : Type 0 where
  pub low : least_end r ≡ Fin (truth (not may_fail))
  pub high : greatest_end r ≡ Fin (truth may_hold)

-- one less than the size of the number
abbrev pub size_less_one : Ext → Ext
size_less_one Low = High
size_less_one (Fin n) = Fin (if int_lt (pos 0) n then n -ℤ pos 1 else negsuc 0 -ℤ n)
size_less_one High = High

-- the greatest size of a remainder by these divisors
abbrev pub greatest_remainder : Interval → Ext
greatest_remainder b = greater (Fin (pos 0)) (greater (size_less_one (least_end b)) (size_less_one (greatest_end b)))

-- the interval holds the remainders by the divisors other than 0, and is no wider than the plain rule
pub record HoldsRemainders (a b r : Interval) : Type 0 where
  pub holds : (x y : ℤ) → Admits a x → Admits b y → y ≢ pos 0 → Admits r (int_rem x y)
  pub plain : (s t u : Span) → IsWithin s a → FitsSpan t → IsWithin t b → remainders s t ≡ Some u → IsWithin u r

-- how much a comparison may leave open: 0 and 1 just as some numbers of the two intervals decide it, infinite ends too
abbrev pub Decides : NOp → Interval → Interval → Interval → Type 0
Decides Eq a b r = IsTests (may_equal a b) (may_differ a b) r
Decides Ne a b r = IsTests (may_differ a b) (may_equal a b) r
Decides Lt a b r = IsTests (may_be_less a b) (may_be_at_most b a) r
Decides Le a b r = IsTests (may_be_at_most a b) (may_be_less b a) r
Decides op a b r = Unit {0}

-- so a negation: 1 and 0 just as the interval may be 0 and another number
abbrev pub DecidesOne : NOp → Interval → Interval → Type 0
DecidesOne Not a r = ((zero : Interval) → IsPoint zero (pos 0) → IsTests (may_equal a zero) (may_differ a zero) r)
DecidesOne op a r = Unit {0}
