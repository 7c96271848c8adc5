use Rattle.std.proofs.Common.{◌≡◌, ◌≢◌, ℤ, pos, to_z, of_z, arith, rules, ap, ◌∙◌, subst, FitsSigned, int_rem}
use Rattle.std.proofs.lemmas.Int.{ints, to_z-of_z}
use mir.Syntax.{w128}
use Rattle.intervals.specs.Interval.{IsPoint}
use Rattle.intervals.proofs.Inside.{same_point}
use Rattle.intervals.proofs.Remainders.{carries_point, carries_remainders}
use Rattle.intervals.proofs.RemBounds.{point_bounds}
use Rattle.intervals.proofs.operators.remainder.Goals as goal
use Rattle.intervals.proofs.operators.remainder.Goals.{in_default-via-in-Some-Some+else-y-ne0, in_default-via-in-Some+in_default, in_default-via-in_default}

is_zero : (y : ℤ) → FitsSigned w128 y → of_z w128 y ≡ 0 → y ≡ pos 0
is_zero y f e = omega (arith, ints)

value : (x y r : ℤ) → FitsSigned w128 x → FitsSigned w128 y → FitsSigned w128 r → r ≡ int_rem (to_z w128 (of_z w128 x)) (to_z w128 (of_z w128 y)) → to_z w128 (of_z w128 r) ≡ int_rem x y
value x y r f g h e =
    to_z-of_z w128 r h ∙ e ∙ ap (λ z. int_rem z (to_z w128 (of_z w128 y))) (to_z-of_z w128 x f) ∙ ap (int_rem x) (to_z-of_z w128 y g)

pub returns-in-Some-Some-clause-carries : goal.returns-in-Some-Some-clause-carries
returns-in-Some-Some-clause-carries c =
    let x = c.in-Some-Some.x in
    let y = c.in-Some-Some.y in
    let f : FitsSigned w128 x = search rules in
    let g : FitsSigned w128 y = search rules in
    let h : FitsSigned w128 c.wrapping_rem.result = record { sfits = c.wrapping_rem.type_inv } in
    carries_point c.args.a.now c.args.b.now c.point.result x y c.in-Some-Some.ensures.some c.in-Some-Some.ensures'.some (λ e. c.if-y-ne0.true (ap (of_z w128) e))
    (subst (λ (z : ℤ). IsPoint c.point.result z) (value x y c.wrapping_rem.result f g h c.wrapping_rem.ensures) c.point.ensures)

pub returns-in_default-clause-carries : goal.returns-in_default-clause-carries
returns-in_default-clause-carries c =
    let a = c.args.a.now in
    let b = c.args.b.now in
    let others : (x y : ℤ) → IsPoint a x → IsPoint b y → y ≢ pos 0 → ⊥ =
    elim c.in_default.branch [
      | in_default-via-in-Some-Some+else-y-ne0 w ↦ λ x y p q ne.
          let f : FitsSigned w128 w.in-Some-Some.y = search rules in
          ne (same_point b w.in-Some-Some.y y w.in-Some-Some.ensures'.some q ∙ is_zero w.in-Some-Some.y f w.if-y-ne0.false)
      | in_default-via-in-Some+in_default w ↦ λ x y p q ne. w.in_default.ensures'.none y q
      | in_default-via-in_default w ↦ λ x y p q ne. (rw w.in_default.is-0 at c.number.ensures.none) x p
    ] in
    carries_remainders a b c.narrowed_remainders.result others c.narrowed_remainders.ensures.holds

pub returns-in-Some-Some-clause-bounds : goal.returns-in-Some-Some-clause-bounds
returns-in-Some-Some-clause-bounds c =
    let x = c.in-Some-Some.x in
    let y = c.in-Some-Some.y in
    let f : FitsSigned w128 x = search rules in
    let g : FitsSigned w128 y = search rules in
    let h : FitsSigned w128 c.wrapping_rem.result = record { sfits = c.wrapping_rem.type_inv } in
    point_bounds c.args.a.now c.args.b.now c.point.result x y c.in-Some-Some.ensures.some c.in-Some-Some.ensures'.some (λ e. c.if-y-ne0.true (ap (of_z w128) e))
    (subst (λ (z : ℤ). IsPoint c.point.result z) (value x y c.wrapping_rem.result f g h c.wrapping_rem.ensures) c.point.ensures)
