-- What is told of a range of an operator's results at a type.
use Rattle.std.specs.Prelude.{◌≡◌, ℤ, Some}
use Rattle.std.specs.Int.RustNames.{FitsSigned}
use mir.Syntax.{w128}
use Rattle.c_syntax_written.specs.declared.int_type.IntType.{IntType}
use Rattle.num_api.specs.declared.message.Range.{Range}
use Rattle.num_api.specs.declared.expr.NOp.{NOp}
use Rattle.num_api.specs.Ranges.{InRange, IsPoint, NoWider}
use Rattle.num_api.specs.Spans.{Span, FitsSpan, range_of}
use Rattle.num_api.specs.Value.{binary_value}
use Rattle.machine_nums.specs.Rule.{typed_span}

-- it has each result, is the point of the one result, and is no wider than the rule leaves
abbrev pub IsFound : NOp → IntType → Range → Range → Range → Type 0
IsFound op t r s found =
    ((x y n : ℤ) → InRange r x → InRange s y → binary_value op x y ≡ Some n → InRange found n)
    × ((x y n : ℤ) → IsPoint r x → IsPoint s y → binary_value op x y ≡ Some n → FitsSigned w128 n → IsPoint found n)
    × ((p q u : Span) → NoWider r (range_of p) → FitsSpan p → NoWider s (range_of q) → FitsSpan q → typed_span op t p q ≡ Some u → FitsSpan u
    → NoWider found (range_of u))
