use Rattle.std.proofs.Common.{rules, ℤ, sym, subst, ◌≡◌, ◌+ℤ◌, FitsSigned}
use Rattle.std.proofs.lemmas.Int.{to_z-of_z}
use Rattle.std.proofs.lemmas.Result.{on_ok_weaker}
use mir.Syntax.{w128}
use Rattle.octagons_linear.specs.Forms.{signed_value}
use Rattle.octagons_changes.proofs.Bounding.{swapped}
use Rattle.octagons_changes.proofs.relations.Relations.assign.Goals as goal

pub returns-in-Some-Two-2 : goal.returns-in-Some-Two-2
returns-in-Some-Two-2 g c =
    let b = c.in-Some-Two in
    let fits : FitsSigned w128 b.n = search rules in
    record {
      points = on_ok_weaker c.assign_two-in-Some-Two-2.result
          (λ p v w n h a e s.
          let sum : n ≡ ((signed_value v b.s +ℤ signed_value v b.t) +ℤ b.n) = search rules in
          p v w n h a (subst (λ (z : ℤ). n ≡ ((signed_value v b.t +ℤ signed_value v b.s) +ℤ z)) (sym (to_z-of_z w128 b.n fits)) (swapped n (signed_value v b.s) (signed_value v b.t) b.n sum)) s)
          c.assign_two-in-Some-Two-2.ensures.points;
    }
