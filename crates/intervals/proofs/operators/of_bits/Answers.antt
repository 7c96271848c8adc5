use Rattle.std.proofs.Common.{◌≡◌, ℤ, Some, to_z, of_z, rules, subst, FitsSigned}
use Rattle.std.proofs.lemmas.Int.{to_z-of_z}
use mir.Syntax.{w128}
use Rattle.num_api.specs.declared.expr.NOp.{NOp}
use Rattle.num_api.specs.Value.{binary_value}
use Rattle.intervals.specs.declared.Interval.{Interval}
use Rattle.intervals.specs.Interval.{IsPoint}
use Rattle.intervals.proofs.Inside.{same_point}
use Rattle.intervals.proofs.Points.{carries_value, carries_values}
use Rattle.intervals.proofs.BitPoints.{value_bounds}
use Rattle.intervals.proofs.operators.of_bits.Goals as goal
use Rattle.intervals.proofs.operators.of_bits.Goals.{in_default-via-in-Some+in_default, in_default-via-in_default}

read : (P : ℤ → ℤ → Type 0) (x y : ℤ) → FitsSigned w128 x → FitsSigned w128 y → P (to_z w128 (of_z w128 x)) (to_z w128 (of_z w128 y)) → P x y
read P x y f g h = subst (λ (z : ℤ). P x z) (to_z-of_z w128 y g) (subst (λ (z : ℤ). P z (to_z w128 (of_z w128 y))) (to_z-of_z w128 x f) h)

pub returns-in-Some-clause-carries : goal.returns-in-Some-clause-carries
returns-in-Some-clause-carries c =
    let op = c.args.op in
    let x = c.in-Some-Some.x in
    let y = c.in-Some-Some.y in
    let n = c.in-Some.n in
    let f : FitsSigned w128 x = search rules in
    let g : FitsSigned w128 y = search rules in
    let h : FitsSigned w128 n = search rules in
    carries_value op c.requires c.args.a.now c.args.b.now c.point.result x y n c.in-Some-Some.ensures.some c.in-Some-Some.ensures'.some
    (read (λ v w. binary_value op v w ≡ Some n) x y f g c.in-Some.ensures.some)
    (subst (λ (z : ℤ). IsPoint c.point.result z) (to_z-of_z w128 n h) c.point.ensures)

same_value : (op : NOp) (a b : Interval) (x y v w n : ℤ) → IsPoint a x → IsPoint b y → IsPoint a v → IsPoint b w → binary_value op v w ≡ Some n → binary_value op x y ≡ Some n
same_value op a b x y v w n at_x at_y p q e =
    subst (λ (z : ℤ). binary_value op z y ≡ Some n) (same_point a x v at_x p) (subst (λ (z : ℤ). binary_value op v z ≡ Some n) (same_point b y w at_y q) e)

pub returns-in-None-clause-carries : goal.returns-in-None-clause-carries
returns-in-None-clause-carries c =
    let op = c.args.op in
    let x = c.in-Some-Some.x in
    let y = c.in-Some-Some.y in
    let f : FitsSigned w128 x = search rules in
    let g : FitsSigned w128 y = search rules in
    let none = read (λ v w. (n : ℤ) → binary_value op v w ≡ Some n → FitsSigned w128 n → ⊥) x y f g c.in-None.ensures.none in
    carries_values op c.requires c.args.a.now c.args.b.now c.range_of_bits.result c.range_of_bits.ensures.holds
    (λ v w n p q e fits. none n (same_value op c.args.a.now c.args.b.now x y v w n c.in-Some-Some.ensures.some c.in-Some-Some.ensures'.some p q e) fits)

pub returns-in_default-clause-carries : goal.returns-in_default-clause-carries
returns-in_default-clause-carries c =
    let a = c.args.a.now in
    let b = c.args.b.now in
    let others : (x y : ℤ) → IsPoint a x → IsPoint b y → ⊥ =
    elim c.in_default.branch [
      | in_default-via-in-Some+in_default w ↦ λ x y p q. w.in_default.ensures'.none y q
      | in_default-via-in_default w ↦ λ x y p q. (rw w.in_default.is-0 at c.number.ensures.none) x p
    ] in
    carries_values c.args.op c.requires a b c.range_of_bits-in_default.result c.range_of_bits-in_default.ensures.holds (λ x y n p q e fits. others x y p q)

pub returns-in-Some-clause-bounds : goal.returns-in-Some-clause-bounds
returns-in-Some-clause-bounds c =
    let op = c.args.op in
    let x = c.in-Some-Some.x in
    let y = c.in-Some-Some.y in
    let n = c.in-Some.n in
    let f : FitsSigned w128 x = search rules in
    let g : FitsSigned w128 y = search rules in
    let h : FitsSigned w128 n = search rules in
    value_bounds op c.requires c.args.a.now c.args.b.now c.point.result x y n c.in-Some-Some.ensures.some c.in-Some-Some.ensures'.some
    (read (λ v w. binary_value op v w ≡ Some n) x y f g c.in-Some.ensures.some)
    (subst (λ (z : ℤ). IsPoint c.point.result z) (to_z-of_z w128 n h) c.point.ensures)
