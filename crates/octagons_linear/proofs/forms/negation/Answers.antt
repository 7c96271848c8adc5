use Rattle.std.proofs.Common.{ℤ, ◌≡◌, neg_ℤ, rules, FitsSigned, to_z, of_z, ap, ◌∙◌}
use Rattle.std.proofs.lemmas.Int.{to_z-of_z}
use mir.Syntax.{w128}
use Rattle.octagons_linear.specs.Forms.{signed_value, linear_value}
use Rattle.octagons_linear.proofs.Reading.{negated-two}
use Rattle.octagons_linear.proofs.forms.negation.Goals as goal

pub returns-in_ok-checked_neg-in-Two : goal.returns-in_ok-checked_neg-in-Two
returns-in_ok-checked_neg-in-Two c = λ v.
    let p = c.in-Two in let m = c.in_ok-checked_neg-in-Two.field-0 in
    let fits : FitsSigned w128 m = search rules in
    let is : m ≡ neg_ℤ p.n = search rules in
    negated-two (signed_value v c.turned-in-Two.result) (signed_value v c.turned-in-Two-2.result) (to_z w128 (of_z w128 m)) (signed_value v p.s) (signed_value v p.t) p.n (linear_value v c.args.a)
    (c.turned-in-Two.ensures v) (c.turned-in-Two-2.ensures v) (to_z-of_z w128 m fits ∙ is) (ap (linear_value v) p.is)
