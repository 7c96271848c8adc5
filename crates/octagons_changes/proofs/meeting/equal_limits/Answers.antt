use Rattle.std.proofs.Common.{ℤ, List, neg_ℤ, pos, ◌≡◌}
use Rattle.ext_int.specs.Valuation.{value_at}
use Rattle.octagons_linear.specs.Forms.{signed_value, linear_value, IsUpToZero}
use Rattle.octagons_linear.specs.declared.forms.Linear.{Linear}
use Rattle.octagons_linear.proofs.Reading.{some-map}
use Rattle.octagons_changes.proofs.Bounding.{zero-difference, at-zero, turned-zero}
use Rattle.octagons_changes.proofs.meeting.equal_limits.Goals as goal

pub returns : goal.returns
returns c = λ v e.
    let sum = c.in_ok-sum.sum in
    let n = linear_value v c.in_ok-linear_of.field-0 in
    let zero : linear_value v sum ≡ pos 0 = zero-difference (linear_value v sum) (value_at v c.args.x.0) n (signed_value v c.plain.result) (c.in_ok-sum.ensures v) (c.plain.ensures.value v) (c.in_ok-linear_of.ensures v (value_at v c.args.x.0) e) in
    record {
      first = at-zero (linear_value v sum) zero;
      second = some-map (λ (l : Linear). (w : List ℤ) → linear_value w l ≡ neg_ℤ (linear_value w sum)) (IsUpToZero v) c.negation.result c.negation.ensures (λ l f. turned-zero (linear_value v l) (linear_value v sum) (f v) zero);
    }
