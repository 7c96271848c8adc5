-- The plain rule for C's integer expressions: from a range for each variable to the numbers of an expression, and to the ranges behind a
-- test. Operators give what they give on whole numbers; a result that does not fit the type of its node leaves the numbers of the type
-- (this profile).
use Rattle.std.specs.Prelude.{ℕ, ℤ, pos, Bool, false, not, ◌&&◌, if◌then◌else◌, Option, Some, None}
use Rattle.std.specs.Int.RustNames.{int_le}
use Rattle.c_syntax_written.specs.declared.int_type.IntType.{IntType}
use Rattle.c_syntax_written.specs.Integer.{least, greatest}
use Rattle.num_api.specs.declared.message.Range.{Range}
use Rattle.num_api.specs.declared.expr.NOp.{NOp}
use Rattle.num_api.specs.declared.expr.NOp.TheVariants.{Not, Shr, And, Or, Xor}
use Rattle.num_api.specs.Ranges.{with_range, common}
use Rattle.num_api.specs.Spans.{Span, span, point, range_of, span_between, unary_span, binary_span}
use Rattle.num_api.specs.Plain.{Standing, standing, turned, cut}
use Rattle.machine_nums.specs.MExprs.{MExprTree, Const, Read, Convert, Unary, Binary, type_of}

-- ---- types

-- the numbers of the type
abbrev pub type_span : IntType → Span
type_span t = span (least t) (pos (greatest t))

-- the number is one of the type
abbrev pub is_number : IntType → ℤ → Bool
is_number t n = int_le (least t) n && int_le n (pos (greatest t))

-- both ends of the span are
abbrev pub fits : IntType → Span → Bool
fits t s = is_number t s.lo && is_number t s.hi

-- what a conversion to the type leaves: a span that fits, else the numbers of the type, and these too where nothing is known
abbrev pub converted : IntType → Option Span → Span
converted t None = type_span t
converted t (Some s) = if fits t s then s else type_span t

-- ---- expressions

-- numbers of the type give a number of it by the operators on bits and by a shift to the right
abbrev pub stays : NOp → IntType → Span → Span → Bool
stays And t a b = fits t a && fits t b
stays Or t a b = fits t a && fits t b
stays Xor t a b = fits t a && fits t b
stays Shr t a b = fits t a
stays op t a b = false

abbrev pub or_type : Bool → IntType → Option Span → Option Span
or_type stay t (Some s) = Some s
or_type stay t None = if stay then Some (type_span t) else None

-- the rule of an operator of two operands at a type
abbrev pub typed_span : NOp → IntType → Span → Span → Option Span
typed_span op t a b = or_type (stays op t a b) t (binary_span op a b)

-- the numbers that the rule leaves for the exact result of the outermost node; nothing where it says nothing of that
abbrev pub exact_span : (ℕ → Range) → MExprTree → Option Span
exact_span given (Const t n) = Some (point n)
exact_span given (Read x t) = span_between (given x).lo (given x).hi
exact_span given (Convert t a) = Some (converted (type_of a) (exact_span given a))
exact_span given (Unary op t a) = unary_span op (converted (type_of a) (exact_span given a))
exact_span given (Binary op t a b) = typed_span op t (converted (type_of a) (exact_span given a)) (converted (type_of b) (exact_span given b))

-- and for the value
abbrev pub value_span : (ℕ → Range) → MExprTree → Span
value_span given e = converted (type_of e) (exact_span given e)

-- ---- tests

-- the number of a variable, where its span fits the type
abbrev pub if_fits : IntType → Option Span → Option ℕ → Option ℕ
if_fits t None x = None
if_fits t (Some s) x = if fits t s then x else None

-- the variable whose number is the exact result, where every conversion keeps its span
abbrev pub exact_variable : (ℕ → Range) → MExprTree → Option ℕ
exact_variable given (Const t n) = None
exact_variable given (Read x t) = Some x
exact_variable given (Convert t a) = if_fits (type_of a) (exact_span given a) (exact_variable given a)
exact_variable given (Unary op t a) = None
exact_variable given (Binary op t a b) = None

-- and whose number is the value: a side of a comparison that is a variable
abbrev pub side_variable : (ℕ → Range) → MExprTree → Option ℕ
side_variable given e = if_fits (type_of e) (exact_span given e) (exact_variable given e)

-- the ranges where a side that is a variable keeps of its numbers what the other side's span leaves
abbrev pub cut_side : (ℕ → Range) → Option ℕ → Standing → Span → Span → ℕ → Range
cut_side given None how s t = given
cut_side given (Some x) how s t = with_range given x (common (given x) (range_of (cut how s t)))

-- the ranges behind a comparison: each side that is a variable is cut by the other, as that was before; where both are one variable, it has
-- what both cuts leave
abbrev pub cut_sides : (ℕ → Range) → Option ℕ → Option ℕ → Option Standing → Span → Span → ℕ → Range
cut_sides given a b None s t = given
cut_sides given a b (Some how) s t = cut_side (cut_side given a how s t) b (turned how) t s

-- the ranges behind a test of this truth: a negation follows its part, a comparison cuts its sides, and another test cuts nothing
abbrev pub tested : (ℕ → Range) → MExprTree → Bool → ℕ → Range
tested given (Const t n) wanted = given
tested given (Read x t) wanted = given
tested given (Convert t a) wanted = given
tested given (Unary Not t a) wanted = tested given a (not wanted)
tested given (Unary op t a) wanted = given
tested given (Binary op t a b) wanted =
    cut_sides given (side_variable given a) (side_variable given b) (standing op wanted) (value_span given a) (value_span given b)
