-- The plain rule: from a range for each variable to the range of an expression, and to the ranges behind a test.
use Rattle.std.specs.Prelude.{ℕ, ℤ, pos, ◌≡◌, ◌⊎◌, ◌+ℤ◌, ◌-ℤ◌, Option, Some, None, IsSomeAnd, Bool, true, false, not, if◌then◌else◌}
use Rattle.std.specs.Int.{int_min, int_max}
use Rattle.std.specs.Ordering.{int_eq}
use Rattle.num_api.specs.declared.message.Range.{Range}
use Rattle.num_api.specs.declared.expr.NOp.{NOp}
use Rattle.num_api.specs.declared.expr.NOp.TheVariants.{Not, Quot, Eq, Ne, Lt, Le}
use Rattle.num_api.specs.Exprs.{NExprTree, Const, Read, Unary, Binary}
use Rattle.num_api.specs.Ranges.{with_range, common, IsPoint}
use Rattle.num_api.specs.Spans.{Span, span, point, range_of, span_between, FitsSpan, may_equal, may_differ, unary_span, binary_span}
use Rattle.num_api.specs.Value.{of_one, of_two}

-- ---- expressions

-- the numbers that the rule leaves for an expression; nothing where it leaves none, or where an end of a part is no number
abbrev pub plain : (ℕ → Range) → NExprTree → Option Span
plain given (Const n) = Some (point n)
plain given (Read x) = span_between (given x).lo (given x).hi
plain given (Unary op a) = of_one (unary_span op) (plain given a)
plain given (Binary op a b) = of_two (binary_span op) (plain given a) (plain given b)

-- the rule leaves a number for the expression and for each of its parts, and all ends are i128 numbers
abbrev pub IsPlain : (ℕ → Range) → NExprTree → Type 0
IsPlain given (Const n) = IsSomeAnd (plain given (Const n)) FitsSpan
IsPlain given (Read x) = IsSomeAnd (plain given (Read x)) FitsSpan
IsPlain given (Unary op a) = IsSomeAnd (plain given (Unary op a)) FitsSpan × IsPlain given a
IsPlain given (Binary op a b) = IsSomeAnd (plain given (Binary op a b)) FitsSpan × IsPlain given a × IsPlain given b

-- the rule leaves no 0 for the divisor, or it is a variable that is not known to be 0
abbrev pub IsNonzero : (ℕ → Range) → (ℕ → Range) → NExprTree → Type 0
IsNonzero known given b = ((s : Span) → plain given b ≡ Some s → may_equal s (point (pos 0)) ≡ false)
    ⊎ ((t : ℕ) × (b ≡ Read t) × (IsPoint (known t) (pos 0) → ⊥))

-- each quotient's divisor is, by the rule, never 0, or a variable that is not known to be 0
abbrev pub MayDivide : (ℕ → Range) → (ℕ → Range) → NExprTree → Type 0
MayDivide known given (Const n) = Unit {0}
MayDivide known given (Read x) = Unit {0}
MayDivide known given (Unary op a) = MayDivide known given a
MayDivide known given (Binary op a b) = (op ≡ Quot → IsNonzero known given b) × MayDivide known given a × MayDivide known given b

-- ---- tests

-- no number of the span has this truth
abbrev pub excludes : Bool → Span → Bool
excludes wanted s = if wanted then not (may_differ s (point (pos 0))) else not (may_equal s (point (pos 0)))

-- how a number stands to another one
pub data Standing : Type 0 where
  less : Standing
  at_most : Standing
  greater : Standing
  at_least : Standing
  same : Standing
  other : Standing

-- how the left side of a comparison stands to the right one where it has this truth
abbrev pub standing : NOp → Bool → Option Standing
standing Eq true = Some same
standing Eq false = Some other
standing Ne true = Some other
standing Ne false = Some same
standing Lt true = Some less
standing Lt false = Some at_least
standing Le true = Some at_most
standing Le false = Some greater
standing op wanted = None

-- how the right side then stands to the left one
abbrev pub turned : Standing → Standing
turned less = greater
turned at_most = at_least
turned greater = less
turned at_least = at_most
turned same = same
turned other = other

-- the least span that holds the numbers of s other than n
abbrev pub without : ℤ → Span → Span
without n s = span (if int_eq s.lo n then s.lo +ℤ pos 1 else s.lo) (if int_eq s.hi n then s.hi -ℤ pos 1 else s.hi)

-- the least span that holds the numbers of s that stand so to some number of t
abbrev pub cut : Standing → Span → Span → Span
cut less s t = span s.lo (int_min s.hi (t.hi -ℤ pos 1))
cut at_most s t = span s.lo (int_min s.hi t.hi)
cut greater s t = span (int_max s.lo (t.lo +ℤ pos 1)) s.hi
cut at_least s t = span (int_max s.lo t.lo) s.hi
cut same s t = span (int_max s.lo t.lo) (int_min s.hi t.hi)
cut other s t = if int_eq t.lo t.hi then without t.lo s else s

-- the ranges where a side that is a variable keeps of its numbers what the other side's span leaves
abbrev pub cut_side : (ℕ → Range) → NExprTree → Standing → Option Span → Option Span → ℕ → Range
cut_side given (Read x) how (Some s) (Some t) = with_range given x (common (given x) (range_of (cut how s t)))
cut_side given e how s t = given

-- the ranges behind a comparison: each side that is a variable is cut by the other, as that was before; where both are one variable, it has
-- what both cuts leave
abbrev pub cut_sides : (ℕ → Range) → NExprTree → NExprTree → Option Standing → Option Span → Option Span → ℕ → Range
cut_sides given a b None s t = given
cut_sides given a b (Some how) s t = cut_side (cut_side given a how s t) b (turned how) t s

-- the ranges behind a test of this truth: a negation follows its part, a comparison cuts its sides, and another test cuts nothing
abbrev pub tested : (ℕ → Range) → NExprTree → Bool → ℕ → Range
tested given (Const n) wanted = given
tested given (Read x) wanted = given
tested given (Unary Not a) wanted = tested given a (not wanted)
tested given (Unary op a) wanted = given
tested given (Binary op a b) wanted = cut_sides given a b (standing op wanted) (plain given a) (plain given b)
