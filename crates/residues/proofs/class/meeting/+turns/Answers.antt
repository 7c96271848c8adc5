use Rattle.std.proofs.Common.{◌≡◌, ℤ, pos, ◌+ℤ◌, ◌*ℤ◌, neg_ℤ, ◌≤ℤ◌, arith, subst, FitsSigned, to_z, of_z, rules}
use Rattle.std.specs.Int.RustNames.{int_div}
use Rattle.std.proofs.lemmas.Int.{ints, to_z-of_z}
use Rattle.std.proofs.Math.IntN.{+ℤ_idl}
use mir.Syntax.{w128}
use Rattle.num_api.specs.Residues.{InResidue}
use Rattle.num_api.specs.Residues.{class_of}
use Rattle.residues.specs.Classes.{IsCoprime, IsTurn}
use Rattle.residues.proofs.Moves.{moved}
use Rattle.residues.proofs.Crt.{coprime_step, turn_of_zero, turn_sum, turn_step, small_product}
use Rattle.residues.proofs.class.meeting.+turns.Goals as goal

pub returns-then-step-eq0 : goal.returns-then-step-eq0
returns-then-step-eq0 t c =
    let e : c.args.step ≡ pos 0 = omega (arith, ints) in
    turn_of_zero c.args.step c.args.gap c.args.modulus c.requires.coprime e c.requires.gap_low c.requires.gap_high

pub turns-inner-requires : goal.turns-inner-requires
turns-inner-requires t c =
    let f1 : FitsSigned w128 c.args.step = c.ranges.step in
    let f2 : FitsSigned w128 c.args.gap = c.ranges.gap in
    let f3 : FitsSigned w128 c.args.modulus = c.ranges.modulus in
    let one : pos 1 ≤ℤ c.args.step = omega (arith, ints) in
    let f4 : FitsSigned w128 c.remainder.result = search rules in
    let f5 : FitsSigned w128 c.remainder-2.result = search rules in
    let f6 : FitsSigned w128 (pos 0 +ℤ neg_ℤ c.args.gap) = omega (arith, ints) in
    let rest : InResidue (class_of c.remainder.result c.args.step) c.args.modulus = simp to_z-of_z at c.remainder.ensures.same in
    let from_zero : InResidue (class_of c.remainder-2.result c.args.step) (pos 0 +ℤ neg_ℤ c.args.gap) = simp to_z-of_z at c.remainder-2.ensures.same in
    let turned : InResidue (class_of c.remainder-2.result c.args.step) (neg_ℤ c.args.gap) = subst (λ (x : ℤ). InResidue (class_of c.remainder-2.result c.args.step) x) (+ℤ_idl (neg_ℤ c.args.gap)) from_zero in
    let coprime : IsCoprime c.remainder.result c.args.step = coprime_step c.args.step c.args.modulus c.remainder.result rest c.requires.coprime in
    let moved_coprime = moved (λ (x : ℤ). IsCoprime x (to_z w128 (of_z w128 c.args.step))) c.remainder.result f4 (moved (λ (x : ℤ). IsCoprime c.remainder.result x) c.args.step f1 coprime) in
    (search rules, (search rules, (omega (arith, ints), (search rules, (omega (arith, ints), (omega (arith, ints), moved_coprime))))))

pub overflow_mul-result : goal.overflow_mul-result
overflow_mul-result t c =
    let f1 : FitsSigned w128 c.args.step = c.ranges.step in
    let f2 : FitsSigned w128 c.args.gap = c.ranges.gap in
    let f3 : FitsSigned w128 c.args.modulus = c.ranges.modulus in
    let one : pos 1 ≤ℤ c.args.step = omega (arith, ints) in
    let f4 : FitsSigned w128 c.remainder.result = search rules in
    let f5 : FitsSigned w128 c.remainder-2.result = search rules in
    let f6 : FitsSigned w128 (pos 0 +ℤ neg_ℤ c.args.gap) = omega (arith, ints) in
    let rest : InResidue (class_of c.remainder.result c.args.step) c.args.modulus = simp to_z-of_z at c.remainder.ensures.same in
    let from_zero : InResidue (class_of c.remainder-2.result c.args.step) (pos 0 +ℤ neg_ℤ c.args.gap) = simp to_z-of_z at c.remainder-2.ensures.same in
    let turned : InResidue (class_of c.remainder-2.result c.args.step) (neg_ℤ c.args.gap) = subst (λ (x : ℤ). InResidue (class_of c.remainder-2.result c.args.step) x) (+ℤ_idl (neg_ℤ c.args.gap)) from_zero in
    let f7 : FitsSigned w128 c.turns-inner.result = search rules in
    let s = c.turns-inner.result in
    let found : IsTurn c.remainder.result c.remainder-2.result c.args.step s = simp to_z-of_z at c.turns-inner.ensures in
    let low = found.low in
    let high = found.high in
    let product = small_product c.args.modulus s (omega (arith, ints)) c.requires.small low (omega (arith, ints)) in
    let f8 : FitsSigned w128 (c.args.modulus *ℤ s) = omega (arith, ints) in
    let f9 : FitsSigned w128 ((c.args.modulus *ℤ s) +ℤ c.args.gap) = omega (arith, ints) in
    let turn = turn_step c.args.step c.args.gap c.args.modulus s one c.requires.gap_low c.requires.gap_high low high (turn_sum c.args.step c.args.gap c.args.modulus c.remainder.result c.remainder-2.result s rest turned found.solves) in
    let t_low = turn.low in
    let t_high = turn.high in
    let f10 : FitsSigned w128 (int_div ((c.args.modulus *ℤ s) +ℤ c.args.gap) c.args.step) = omega (arith, ints) in
    moved (λ (x : ℤ). FitsSigned w128 (x *ℤ to_z w128 (of_z w128 s))) c.args.modulus f3 (moved (λ (x : ℤ). FitsSigned w128 (c.args.modulus *ℤ x)) s f7 f8)

pub overflow_add-result : goal.overflow_add-result
overflow_add-result t c =
    let f1 : FitsSigned w128 c.args.step = c.ranges.step in
    let f2 : FitsSigned w128 c.args.gap = c.ranges.gap in
    let f3 : FitsSigned w128 c.args.modulus = c.ranges.modulus in
    let one : pos 1 ≤ℤ c.args.step = omega (arith, ints) in
    let f4 : FitsSigned w128 c.remainder.result = search rules in
    let f5 : FitsSigned w128 c.remainder-2.result = search rules in
    let f6 : FitsSigned w128 (pos 0 +ℤ neg_ℤ c.args.gap) = omega (arith, ints) in
    let rest : InResidue (class_of c.remainder.result c.args.step) c.args.modulus = simp to_z-of_z at c.remainder.ensures.same in
    let from_zero : InResidue (class_of c.remainder-2.result c.args.step) (pos 0 +ℤ neg_ℤ c.args.gap) = simp to_z-of_z at c.remainder-2.ensures.same in
    let turned : InResidue (class_of c.remainder-2.result c.args.step) (neg_ℤ c.args.gap) = subst (λ (x : ℤ). InResidue (class_of c.remainder-2.result c.args.step) x) (+ℤ_idl (neg_ℤ c.args.gap)) from_zero in
    let f7 : FitsSigned w128 c.turns-inner.result = search rules in
    let s = c.turns-inner.result in
    let found : IsTurn c.remainder.result c.remainder-2.result c.args.step s = simp to_z-of_z at c.turns-inner.ensures in
    let low = found.low in
    let high = found.high in
    let product = small_product c.args.modulus s (omega (arith, ints)) c.requires.small low (omega (arith, ints)) in
    let f8 : FitsSigned w128 (c.args.modulus *ℤ s) = omega (arith, ints) in
    let f9 : FitsSigned w128 ((c.args.modulus *ℤ s) +ℤ c.args.gap) = omega (arith, ints) in
    let turn = turn_step c.args.step c.args.gap c.args.modulus s one c.requires.gap_low c.requires.gap_high low high (turn_sum c.args.step c.args.gap c.args.modulus c.remainder.result c.remainder-2.result s rest turned found.solves) in
    let t_low = turn.low in
    let t_high = turn.high in
    let f10 : FitsSigned w128 (int_div ((c.args.modulus *ℤ s) +ℤ c.args.gap) c.args.step) = omega (arith, ints) in
    simp to_z-of_z f9

pub nonzero_div-result : goal.nonzero_div-result
nonzero_div-result t c =
    let f1 : FitsSigned w128 c.args.step = c.ranges.step in
    let f2 : FitsSigned w128 c.args.gap = c.ranges.gap in
    let f3 : FitsSigned w128 c.args.modulus = c.ranges.modulus in
    let one : pos 1 ≤ℤ c.args.step = omega (arith, ints) in
    let f4 : FitsSigned w128 c.remainder.result = search rules in
    let f5 : FitsSigned w128 c.remainder-2.result = search rules in
    let f6 : FitsSigned w128 (pos 0 +ℤ neg_ℤ c.args.gap) = omega (arith, ints) in
    let rest : InResidue (class_of c.remainder.result c.args.step) c.args.modulus = simp to_z-of_z at c.remainder.ensures.same in
    let from_zero : InResidue (class_of c.remainder-2.result c.args.step) (pos 0 +ℤ neg_ℤ c.args.gap) = simp to_z-of_z at c.remainder-2.ensures.same in
    let turned : InResidue (class_of c.remainder-2.result c.args.step) (neg_ℤ c.args.gap) = subst (λ (x : ℤ). InResidue (class_of c.remainder-2.result c.args.step) x) (+ℤ_idl (neg_ℤ c.args.gap)) from_zero in
    let f7 : FitsSigned w128 c.turns-inner.result = search rules in
    let s = c.turns-inner.result in
    let found : IsTurn c.remainder.result c.remainder-2.result c.args.step s = simp to_z-of_z at c.turns-inner.ensures in
    let low = found.low in
    let high = found.high in
    let product = small_product c.args.modulus s (omega (arith, ints)) c.requires.small low (omega (arith, ints)) in
    let f8 : FitsSigned w128 (c.args.modulus *ℤ s) = omega (arith, ints) in
    let f9 : FitsSigned w128 ((c.args.modulus *ℤ s) +ℤ c.args.gap) = omega (arith, ints) in
    let turn = turn_step c.args.step c.args.gap c.args.modulus s one c.requires.gap_low c.requires.gap_high low high (turn_sum c.args.step c.args.gap c.args.modulus c.remainder.result c.remainder-2.result s rest turned found.solves) in
    let t_low = turn.low in
    let t_high = turn.high in
    let f10 : FitsSigned w128 (int_div ((c.args.modulus *ℤ s) +ℤ c.args.gap) c.args.step) = omega (arith, ints) in
    (omega (arith, ints), simp to_z-of_z f10)

pub returns : goal.returns
returns t c =
    let f1 : FitsSigned w128 c.args.step = c.ranges.step in
    let f2 : FitsSigned w128 c.args.gap = c.ranges.gap in
    let f3 : FitsSigned w128 c.args.modulus = c.ranges.modulus in
    let one : pos 1 ≤ℤ c.args.step = omega (arith, ints) in
    let f4 : FitsSigned w128 c.remainder.result = search rules in
    let f5 : FitsSigned w128 c.remainder-2.result = search rules in
    let f6 : FitsSigned w128 (pos 0 +ℤ neg_ℤ c.args.gap) = omega (arith, ints) in
    let rest : InResidue (class_of c.remainder.result c.args.step) c.args.modulus = simp to_z-of_z at c.remainder.ensures.same in
    let from_zero : InResidue (class_of c.remainder-2.result c.args.step) (pos 0 +ℤ neg_ℤ c.args.gap) = simp to_z-of_z at c.remainder-2.ensures.same in
    let turned : InResidue (class_of c.remainder-2.result c.args.step) (neg_ℤ c.args.gap) = subst (λ (x : ℤ). InResidue (class_of c.remainder-2.result c.args.step) x) (+ℤ_idl (neg_ℤ c.args.gap)) from_zero in
    let f7 : FitsSigned w128 c.turns-inner.result = search rules in
    let s = c.turns-inner.result in
    let found : IsTurn c.remainder.result c.remainder-2.result c.args.step s = simp to_z-of_z at c.turns-inner.ensures in
    let low = found.low in
    let high = found.high in
    let product = small_product c.args.modulus s (omega (arith, ints)) c.requires.small low (omega (arith, ints)) in
    let f8 : FitsSigned w128 (c.args.modulus *ℤ s) = omega (arith, ints) in
    let f9 : FitsSigned w128 ((c.args.modulus *ℤ s) +ℤ c.args.gap) = omega (arith, ints) in
    let turn = turn_step c.args.step c.args.gap c.args.modulus s one c.requires.gap_low c.requires.gap_high low high (turn_sum c.args.step c.args.gap c.args.modulus c.remainder.result c.remainder-2.result s rest turned found.solves) in
    let t_low = turn.low in
    let t_high = turn.high in
    let f10 : FitsSigned w128 (int_div ((c.args.modulus *ℤ s) +ℤ c.args.gap) c.args.step) = omega (arith, ints) in
    simp to_z-of_z turn
