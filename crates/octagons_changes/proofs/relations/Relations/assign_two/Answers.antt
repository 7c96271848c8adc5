use Rattle.std.proofs.Common.{rules, FitsSigned, ℤ, sym, subst, ap, neg_ℤ, ◌≢◌, ◌+ℤ◌, ◌∙◌, arith}
use Rattle.std.proofs.lemmas.Bool.Decides.{nat_tests}
use Rattle.std.proofs.lemmas.Result.{on_ok_weaker}
use Rattle.std.proofs.lemmas.Int.{to_z-of_z}
use mir.Syntax.{w128}
use Rattle.num_api.specs.Ranges.{InRange}
use Rattle.octagons_linear.specs.Forms.{with_sign, signed_value}
use Rattle.octagons_changes.proofs.Bounding.{less-first, less-second}
use Rattle.octagons_changes.proofs.relations.Relations.assign_two.Goals as goal

pub returns-then-t-x : goal.returns-then-t-x
returns-then-t-x g c =
    let fits : FitsSigned w128 c.args.n = search rules in
    record {
      points = λ v w m h a e s.
          c.in_ok-set_by.ensures.points v w m h
          (subst (InRange c.moved.result) (sym (less-first m (signed_value v c.args.s) (signed_value v c.args.t) c.args.n e)) (subst (λ (z : ℤ). InRange c.moved.result (signed_value v c.args.t +ℤ z)) (to_z-of_z w128 c.args.n fits) (c.moved.ensures (signed_value v c.args.t) (c.range_of-second.ensures v a)))) s;
    }

pub returns : goal.returns
returns g c =
    let fits : FitsSigned w128 c.args.n = search rules in
    let other : c.args.t.var ≢ c.args.x = let f = c.if-t-x.false in grind (arith, nat_tests) in
    record {
      points = on_ok_weaker c.tie.result
          (λ p v w m h a e s. p w
          (c.in_ok-set_by.ensures.points v w m h
          (subst (InRange c.moved.result) (sym (less-first m (signed_value v c.args.s) (signed_value v c.args.t) c.args.n e)) (subst (λ (z : ℤ). InRange c.moved.result (signed_value v c.args.t +ℤ z)) (to_z-of_z w128 c.args.n fits) (c.moved.ensures (signed_value v c.args.t) (c.range_of-second.ensures v a)))) s)
          (subst (InRange c.moved-2.result)
          (sym (ap (λ (z : ℤ). z +ℤ neg_ℤ (signed_value w c.args.t)) s.here ∙ (ap (λ (z : ℤ). m +ℤ neg_ℤ (with_sign c.args.t.negated z)) (s.others c.args.t.var other) ∙ less-second m (signed_value v c.args.s) (signed_value v c.args.t) c.args.n e)))
          (subst (λ (z : ℤ). InRange c.moved-2.result (signed_value v c.args.s +ℤ z)) (to_z-of_z w128 c.args.n fits) (c.moved-2.ensures (signed_value v c.args.s) (c.range_of-first.ensures v a)))))
          c.tie.ensures.points;
    }
