use Rattle.std.proofs.Common.{rules, ℤ, subst, ◌≡◌, FitsSigned}
use Rattle.std.proofs.lemmas.Result.{on_ok_weaker}
use Rattle.std.proofs.lemmas.Int.{to_z-of_z}
use mir.Syntax.{w128}
use Rattle.num_api.specs.Spans.{point, range_of}
use Rattle.octagons_linear.specs.Forms.{signed_value}
use Rattle.octagons_changes.proofs.Bounding.{less-sum, in-point}
use Rattle.octagons_changes.proofs.relations.Relations.assign_one.Goals as goal

pub returns : goal.returns
returns g c =
    let fits : FitsSigned w128 c.args.n = search rules in
    let here : c.point.result ≡ range_of (point c.args.n) = subst (λ (z : ℤ). c.point.result ≡ range_of (point z)) (to_z-of_z w128 c.args.n fits) c.point.ensures in
    record {
      points = on_ok_weaker c.set_by.result
          (λ p v w m h a e s. p v w m (c.in_ok-bring_other.ensures v h a) (in-point c.point.result c.args.n _ here (less-sum m (signed_value v c.args.s) c.args.n e)) s)
          c.set_by.ensures.points;
    }
