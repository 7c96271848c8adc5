use Rattle.std.proofs.Common.{◌≡◌, ℤ, pos, ◌+ℤ◌, ◌*ℤ◌, FitsSigned, rules, ap, sym, ◌∙◌}
use Rattle.std.proofs.lemmas.Int.{to_z-of_z}
use mir.Syntax.{w128}
use Rattle.num_api.specs.declared.expr.NOp.{NOp}
use Rattle.num_api.specs.Residues.{class_of}
use Rattle.num_api.specs.Value.{binary_value}
use Rattle.num_api.proofs.Multiples.{multiple_along, multiple_add, multiple_times, times_multiple}
use Rattle.residues.specs.Class.{residue_of}
use Rattle.residues.proofs.Operators.{at_points, fold_point, in_point}
use Rattle.residues.proofs.ClassBounds.{value_at_points}
use Rattle.residues.proofs.class.operators.binary.Goals as goal

pub returns-in-Some-clause-fold_sum : goal.returns-in-Some-clause-fold_sum
returns-in-Some-clause-fold_sum c = λ d al e h k.
    let a = residue_of c.args.a in
    let b = residue_of c.args.b in
    let n = c.in-Some.n in
    let f : FitsSigned w128 n = search rules in
    let is : residue_of c.point.result ≡ class_of n (pos 0) = rw (to_z-of_z w128 n f) at c.point.ensures in
    let value : (a.rem +ℤ b.rem) ≡ n = c.in-Some.ensures.some.2 (a.rem +ℤ b.rem) (ap (λ (o : NOp). binary_value o a.rem b.rem) e) in
    fold_point d n (residue_of c.point.result) (multiple_along d (a.rem +ℤ b.rem) n value (multiple_add d a.rem b.rem h.rem k.rem)) is

pub returns-in-Some-clause-fold_left : goal.returns-in-Some-clause-fold_left
returns-in-Some-clause-fold_left c = λ d al e h.
    let a = residue_of c.args.a in
    let b = residue_of c.args.b in
    let n = c.in-Some.n in
    let f : FitsSigned w128 n = search rules in
    let is : residue_of c.point.result ≡ class_of n (pos 0) = rw (to_z-of_z w128 n f) at c.point.ensures in
    let value : (a.rem *ℤ b.rem) ≡ n = c.in-Some.ensures.some.2 (a.rem *ℤ b.rem) (ap (λ (o : NOp). binary_value o a.rem b.rem) e) in
    fold_point d n (residue_of c.point.result) (multiple_along d (a.rem *ℤ b.rem) n value (times_multiple d a.rem b.rem h.rem)) is

pub returns-in-Some-clause-fold_right : goal.returns-in-Some-clause-fold_right
returns-in-Some-clause-fold_right c = λ d al e h.
    let a = residue_of c.args.a in
    let b = residue_of c.args.b in
    let n = c.in-Some.n in
    let f : FitsSigned w128 n = search rules in
    let is : residue_of c.point.result ≡ class_of n (pos 0) = rw (to_z-of_z w128 n f) at c.point.ensures in
    let value : (a.rem *ℤ b.rem) ≡ n = c.in-Some.ensures.some.2 (a.rem *ℤ b.rem) (ap (λ (o : NOp). binary_value o a.rem b.rem) e) in
    fold_point d n (residue_of c.point.result) (multiple_along d (a.rem *ℤ b.rem) n value (multiple_times d a.rem b.rem h.rem)) is

pub returns-in-Some-clause-holds : goal.returns-in-Some-clause-holds
returns-in-Some-clause-holds c =
    let n = c.in-Some.n in
    let f : FitsSigned w128 n = search rules in
    let is : residue_of c.point.result ≡ class_of n (pos 0) = rw (to_z-of_z w128 n f) at c.point.ensures in
    let told = c.in-Some.ensures.some in
    at_points c.args.op (residue_of c.args.a) (residue_of c.args.b) (residue_of c.point.result) told.0 told.1
    (λ m v. in_point (residue_of c.point.result) m (is ∙ ap (λ (z : ℤ). class_of z (pos 0)) (sym (told.2 m v))))

pub returns-in-Some-clause-bounds : goal.returns-in-Some-clause-bounds
returns-in-Some-clause-bounds c =
    let n = c.in-Some.n in
    let f : FitsSigned w128 n = search rules in
    let is : residue_of c.point.result ≡ class_of n (pos 0) = rw (to_z-of_z w128 n f) at c.point.ensures in
    let told = c.in-Some.ensures.some in
    value_at_points c.args.op (residue_of c.args.a) (residue_of c.args.b) (residue_of c.point.result) n told.0 told.1 told.2 is
