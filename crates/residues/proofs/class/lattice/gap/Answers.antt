use Rattle.std.proofs.Common.{◌≡◌, ℤ, pos, ◌-ℤ◌, neg_ℤ, arith, subst, FitsSigned, rules}
use Rattle.std.specs.Prelude.{IfSome}
use Rattle.std.proofs.lemmas.Int.{ints, to_z-of_z}
use mir.Syntax.{w128}
use Rattle.num_api.specs.Residues.{InResidue}
use Rattle.num_api.specs.Residues.{class_of}
use Rattle.residues.specs.Classes.{IsGap, IsFarApart}
use Rattle.residues.proofs.Moves.{moved}
use Rattle.residues.proofs.Lattice.{gap_some, gap_of_remainders, far_none, far_from_unfit, if_none}
use Rattle.residues.proofs.class.lattice.gap.Goals as goal

pub returns-then-step-eq0-clause-some : goal.returns-then-step-eq0-clause-some
returns-then-step-eq0-clause-some c =
    let f1 : FitsSigned w128 c.args.x = c.ranges.x in
    let f2 : FitsSigned w128 c.args.y = c.ranges.y in
    let f3 : FitsSigned w128 c.args.step = c.ranges.step in
    let f4 : FitsSigned w128 c.in_ok-checked_sub.field-0 = search rules in
    let e : pos 0 ≡ c.args.step = omega (arith, ints) in
    let d : c.in_ok-checked_sub.field-0 ≡ c.args.x -ℤ c.args.y = (simp to_z-of_z at c.in_ok-checked_sub.ensures).1 in
    subst (λ (t : ℤ). IfSome c.checked_abs.result (IsGap c.args.x c.args.y t)) e
    (gap_some c.args.x c.args.y c.in_ok-checked_sub.field-0 c.checked_abs.result (FitsSigned w128 (neg_ℤ c.in_ok-checked_sub.field-0)) d (simp to_z-of_z at c.checked_abs.ensures))

pub overflow_sub-remainder : goal.overflow_sub-remainder
overflow_sub-remainder c = omega (arith, ints)

pub returns-clause-some : goal.returns-clause-some
returns-clause-some c =
    let f1 : FitsSigned w128 c.args.x = c.ranges.x in
    let f2 : FitsSigned w128 c.args.y = c.ranges.y in
    let f3 : FitsSigned w128 c.args.step = c.ranges.step in
    let f4 : FitsSigned w128 c.remainder.result = search rules in
    let f5 : FitsSigned w128 c.remainder-2.result = search rules in
    let f6 : FitsSigned w128 c.remainder-3.result = search rules in
    let l1 = c.remainder.ensures.high in
    let l2 = c.remainder-2.ensures.high in
    let f7 : FitsSigned w128 (c.remainder.result -ℤ c.remainder-2.result) = omega (arith, ints) in
    let u : InResidue (class_of c.remainder.result c.args.step) c.args.x = simp to_z-of_z at c.remainder.ensures.same in
    let v : InResidue (class_of c.remainder-2.result c.args.step) c.args.y = simp to_z-of_z at c.remainder-2.ensures.same in
    let w : InResidue (class_of c.remainder-3.result c.args.step) (c.remainder.result -ℤ c.remainder-2.result) = simp to_z-of_z at c.remainder-3.ensures.same in
    moved (λ (t : ℤ). IsGap c.args.x c.args.y c.args.step t) c.remainder-3.result f6
    (gap_of_remainders c.args.x c.args.y c.remainder.result c.remainder-2.result c.args.step c.remainder-3.result c.remainder-3.ensures.low u v w)

pub returns-then-step-eq0-clause-none : goal.returns-then-step-eq0-clause-none
returns-then-step-eq0-clause-none c =
    let f1 : FitsSigned w128 c.args.x = c.ranges.x in
    let f2 : FitsSigned w128 c.args.y = c.ranges.y in
    let f3 : FitsSigned w128 c.args.step = c.ranges.step in
    let f4 : FitsSigned w128 c.in_ok-checked_sub.field-0 = search rules in
    let e : c.args.step ≡ pos 0 = omega (arith, ints) in
    let d : c.in_ok-checked_sub.field-0 ≡ c.args.x -ℤ c.args.y = (simp to_z-of_z at c.in_ok-checked_sub.ensures).1 in
    far_none c.args.x c.args.y c.in_ok-checked_sub.field-0 c.checked_abs.result _ c.args.step e d (simp to_z-of_z at c.checked_abs.ensures)

pub returns-in_err-checked_sub-clause-none : goal.returns-in_err-checked_sub-clause-none
returns-in_err-checked_sub-clause-none c =
    let f1 : FitsSigned w128 c.args.x = c.ranges.x in
    let f2 : FitsSigned w128 c.args.y = c.ranges.y in
    let f3 : FitsSigned w128 c.args.step = c.ranges.step in
    let e : c.args.step ≡ pos 0 = omega (arith, ints) in
    let unfit : FitsSigned w128 (c.args.x -ℤ c.args.y) → ⊥ = simp to_z-of_z at c.in_err-checked_sub.ensures in
    if_none ((c.args.step ≡ pos 0) × IsFarApart c.args.x c.args.y) c.from_residual.result (e, far_from_unfit c.args.x c.args.y unfit)
