-- What is wrapped into a type: no wider than the plain rule leaves it, and numbers up to multiples of 2^64.
use Rattle.std.proofs.Common.{◌≡◌, ℤ, sym, subst}
use Rattle.std.specs.Prelude.{Option, Some}
use Rattle.c_syntax_written.specs.declared.int_type.IntType.{IntType}
use Rattle.c_syntax_written.specs.Integer.{wrapped}
use Rattle.num_api.specs.declared.message.Range.{Range}
use Rattle.num_api.specs.Ranges.{InRange, IsPoint, NoWider}
use Rattle.num_api.specs.Spans.{Span, range_of, FitsSpan}
use Rattle.num_api.proofs.Parts.{wider}
use Rattle.machine_nums.specs.Rule.{type_span, converted}
use Rattle.machine_nums.specs.declared.wrapping.Way.{Way}
use Rattle.machine_nums.specs.Wrapping.{IsWrapping}
use Rattle.machine_nums.proofs.ExprTypes.{wrapped_like}
use Rattle.machine_nums.proofs.Rules.{fits_span, fits_inside, kept_or_all}
use Rattle.mem_temps.specs.Products.{HoldsLike, IsPointLike}

-- a wrapped range is no wider than what the rule leaves behind the conversion
pub wrapped_under : (t : IntType) (r taken : Range) (way : Way) (o : Option Span) → IsWrapping t r way taken
    → ((s : Span) → o ≡ Some s → FitsSpan s → NoWider r (range_of s)) → NoWider taken (range_of (converted t o))
wrapped_under t r taken way o w under = kept_or_all (λ (s : Span). NoWider taken (range_of s)) t o w.takes.inside
    (λ s e f.
    let own = under s e (fits_span t s f) in
    let kept = w.kept (wider r (range_of s) (range_of (type_span t)) own (fits_inside t s f)) in
    subst (λ (x : Range). NoWider x (range_of s)) (sym kept.1) own)

pub like_holds : (t : IntType) (r taken : Range) (way : Way) (n : ℤ) → IsWrapping t r way taken → HoldsLike r n → InRange taken (wrapped t n)
like_holds t r taken way n w h = subst (InRange taken) (wrapped_like t n h.0 h.2) (w.takes.holds h.0 h.1)

pub like_point : (t : IntType) (r taken : Range) (way : Way) (n : ℤ) → IsWrapping t r way taken → IsPointLike r n → IsPoint taken (wrapped t n)
like_point t r taken way n w h = subst (IsPoint taken) (wrapped_like t n h.0 h.2) (w.point h.0 h.1)
