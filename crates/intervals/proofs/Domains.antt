-- The laws of value domains at intervals, said by ranges.
use Rattle.std.proofs.Common.{◌≡◌, Option, Some, None, sym, subst}
use Rattle.std.specs.Prelude.{IsTrue, true, IfSome}
use Rattle.ext_int.specs.declared.Ext.{Ext}
use Rattle.ext_int.specs.Ext.{AtMost, lesser, greater}
use Rattle.ext_int.proofs.Ends.{AtMost_refl, greater_first, greater_second, lesser_first, lesser_second}
use Rattle.num_api.specs.declared.expr.NOp.{NOp}
use Rattle.num_api.specs.Ranges.{NoWider, hull}
use Rattle.num_api.specs.Spans.{Span, FitsSpan, IsNotByZero, range_of, unary_span, binary_span}
use Rattle.intervals.specs.declared.Interval.{Interval}
use Rattle.intervals.specs.Interval.{ends_of, least_end, greatest_end}
use Rattle.intervals.specs.Operations.{CarriesOne, Carries}

pub unary_plain : (op : NOp) (a r : Interval) → CarriesOne op a r → (s u : Span) → IsTrue true → NoWider (ends_of a) (range_of s) → FitsSpan s → unary_span op s ≡ Some u → FitsSpan u → NoWider (ends_of r) (range_of u)
unary_plain op a r carries s u claimed p fits e g =
    let within = carries.plain s u fits (p.low, p.high) e g in
    record { low = within.0; high = within.1 }

pub binary_plain : (op : NOp) (a b r : Interval) → Carries op a b r → (s t u : Span) → IsTrue true → IsNotByZero op (ends_of b) → NoWider (ends_of a) (range_of s) → FitsSpan s → NoWider (ends_of b) (range_of t) → FitsSpan t → binary_span op s t ≡ Some u → FitsSpan u → NoWider (ends_of r) (range_of u)
binary_plain op a b r carries s t u claimed not_by_zero p fits_s q fits_t e g =
    let within = carries.plain s t u not_by_zero fits_s (p.low, p.high) fits_t (q.low, q.high) e g in
    record { low = within.0; high = within.1 }

pub meet_plain : (a b : Interval) (r : Option Interval) → IfSome r (λ i. (least_end i ≡ greater (least_end a) (least_end b)) × (greatest_end i ≡ lesser (greatest_end a) (greatest_end b))) → IfSome r (λ i. IsTrue true → NoWider (ends_of i) (ends_of a) × NoWider (ends_of i) (ends_of b))
meet_plain a b None ends = ends
meet_plain a b (Some i) ends = λ claimed. (
  record {
    low = subst (λ (e : Ext). AtMost (least_end a) e) (sym ends.0) (greater_first (least_end a) (least_end b));
    high = subst (λ (e : Ext). AtMost e (greatest_end a)) (sym ends.1) (lesser_first (greatest_end a) (greatest_end b));
  },
  record {
    low = subst (λ (e : Ext). AtMost (least_end b) e) (sym ends.0) (greater_second (least_end a) (least_end b));
    high = subst (λ (e : Ext). AtMost e (greatest_end b)) (sym ends.1) (lesser_second (greatest_end a) (greatest_end b));
  },
)

pub join_plain : (a b r : Interval) → (least_end r ≡ lesser (least_end a) (least_end b)) × (greatest_end r ≡ greater (greatest_end a) (greatest_end b)) → NoWider (ends_of r) (hull (ends_of a) (ends_of b))
join_plain a b r ends = record {
  low = subst (λ (e : Ext). AtMost (lesser (least_end a) (least_end b)) e) (sym ends.0) (AtMost_refl (lesser (least_end a) (least_end b)));
  high = subst (λ (e : Ext). AtMost e (greater (greatest_end a) (greatest_end b))) (sym ends.1) (AtMost_refl (greater (greatest_end a) (greatest_end b)));
}
