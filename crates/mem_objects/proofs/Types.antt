-- The ranges of the numbers of types.
use Rattle.std.proofs.Common.{◌≡◌, true, refl, sym, subst, ap, ◌∙◌, List, [], ◌∷◌, Some}
use Rattle.c_syntax_written.specs.declared.int_type.IntType.{IntType}
use Rattle.num_api.specs.declared.message.Range.{Range}
use Rattle.num_api.specs.Ranges.{NoWider}
use Rattle.num_api.specs.Spans.{Span, range_of}
use Rattle.machine_nums.specs.Rule.{converted}
use Rattle.machine_nums.proofs.Rules.{kept_or_all}
use Rattle.mem_temps.specs.Operators.{LiesIn}

-- what lies in a type and in a span lies in the span converted to the type
pub lies_converted : (t : IntType) (r : Range) (s : Span) → LiesIn t r → NoWider r (range_of s) → NoWider r (range_of (converted t (Some s)))
lies_converted t r s inside under = kept_or_all (λ z. NoWider r (range_of z)) t (Some s) inside
    (λ z e f. let same : s ≡ z = cc in subst (λ (y : Span). NoWider r (range_of y)) same under)
