use Rattle.std.proofs.Common.{◌≡◌, ◌^◌, ℤ, pos, ◌+ℤ◌, ◌-ℤ◌, ◌*ℤ◌, ◌≤ℤ◌, ◌<ℤ◌, sym, subst, FitsSigned, to_z, of_z, rules}
use Rattle.std.proofs.lemmas.Int.{to_z-of_z}
use mir.Syntax.{w128}
use Rattle.num_api.specs.Residues.{InResidue, IsMultiple}
use Rattle.residues.specs.Class.{residue_of}
use Rattle.num_api.specs.Residues.{class_of}
use Rattle.residues.specs.Classes.{IsCoprime, IsTurn}
use Rattle.residues.proofs.Moves.{moved}
use Rattle.residues.proofs.Crt.{coprime_step, coprime_swap, coprime_quotients, common_positive, quotient_positive, quotient_bounds, common_in_rest, small_period, turn_reach, in_first, in_second, difference_fits, reach_fits, offset_fits}
use Rattle.residues.proofs.class.meeting.number_in.Goals as goal

pub quotient-step-requires-clause-positive : goal.quotient-step-requires-clause-positive
quotient-step-requires-clause-positive c =
    let a = residue_of c.args.a in
    let b = residue_of c.args.b in
    let g = c.args.common in
    let fa : FitsSigned w128 a.rem = search rules in
    let fb : FitsSigned w128 b.rem = search rules in
    let fam : FitsSigned w128 a.modulus = search rules in
    let fbm : FitsSigned w128 b.modulus = search rules in
    let fg : FitsSigned w128 g = c.ranges.common in
    let d = c.requires.shares in
    let one : pos 1 ≤ℤ g = common_positive a b g d in
    let a_low = c.args.a.proper.rem_low d.first in
    let a_high = c.args.a.proper.rem_high d.first in
    let b_low = c.args.b.proper.rem_low d.second in
    let b_high = c.args.b.proper.rem_high d.second in
    let a_most = c.args.a.proper.bounded in
    let b_most = c.args.b.proper.bounded in
    let fd : FitsSigned w128 (b.rem -ℤ a.rem) = difference_fits b.rem a.rem b.modulus a.modulus b_low b_high b_most a_low a_high a_most in
    moved (λ (x : ℤ). pos 1 ≤ℤ x) g fg one

pub quotient-period-requires-clause-positive : goal.quotient-period-requires-clause-positive
quotient-period-requires-clause-positive c =
    let a = residue_of c.args.a in
    let b = residue_of c.args.b in
    let g = c.args.common in
    let fa : FitsSigned w128 a.rem = search rules in
    let fb : FitsSigned w128 b.rem = search rules in
    let fam : FitsSigned w128 a.modulus = search rules in
    let fbm : FitsSigned w128 b.modulus = search rules in
    let fg : FitsSigned w128 g = c.ranges.common in
    let d = c.requires.shares in
    let one : pos 1 ≤ℤ g = common_positive a b g d in
    let a_low = c.args.a.proper.rem_low d.first in
    let a_high = c.args.a.proper.rem_high d.first in
    let b_low = c.args.b.proper.rem_low d.second in
    let b_high = c.args.b.proper.rem_high d.second in
    let a_most = c.args.a.proper.bounded in
    let b_most = c.args.b.proper.bounded in
    let fd : FitsSigned w128 (b.rem -ℤ a.rem) = difference_fits b.rem a.rem b.modulus a.modulus b_low b_high b_most a_low a_high a_most in
    moved (λ (x : ℤ). pos 1 ≤ℤ x) g fg one

pub overflow_sub-b : goal.overflow_sub-b
overflow_sub-b c =
    let a = residue_of c.args.a in
    let b = residue_of c.args.b in
    let g = c.args.common in
    let fa : FitsSigned w128 a.rem = search rules in
    let fb : FitsSigned w128 b.rem = search rules in
    let fam : FitsSigned w128 a.modulus = search rules in
    let fbm : FitsSigned w128 b.modulus = search rules in
    let fg : FitsSigned w128 g = c.ranges.common in
    let d = c.requires.shares in
    let one : pos 1 ≤ℤ g = common_positive a b g d in
    let a_low = c.args.a.proper.rem_low d.first in
    let a_high = c.args.a.proper.rem_high d.first in
    let b_low = c.args.b.proper.rem_low d.second in
    let b_high = c.args.b.proper.rem_high d.second in
    let a_most = c.args.a.proper.bounded in
    let b_most = c.args.b.proper.bounded in
    let fd : FitsSigned w128 (b.rem -ℤ a.rem) = difference_fits b.rem a.rem b.modulus a.modulus b_low b_high b_most a_low a_high a_most in
    simp to_z-of_z fd

pub quotient-gap-requires-clause-positive : goal.quotient-gap-requires-clause-positive
quotient-gap-requires-clause-positive c =
    let a = residue_of c.args.a in
    let b = residue_of c.args.b in
    let g = c.args.common in
    let fa : FitsSigned w128 a.rem = search rules in
    let fb : FitsSigned w128 b.rem = search rules in
    let fam : FitsSigned w128 a.modulus = search rules in
    let fbm : FitsSigned w128 b.modulus = search rules in
    let fg : FitsSigned w128 g = c.ranges.common in
    let d = c.requires.shares in
    let one : pos 1 ≤ℤ g = common_positive a b g d in
    let a_low = c.args.a.proper.rem_low d.first in
    let a_high = c.args.a.proper.rem_high d.first in
    let b_low = c.args.b.proper.rem_low d.second in
    let b_high = c.args.b.proper.rem_high d.second in
    let a_most = c.args.a.proper.bounded in
    let b_most = c.args.b.proper.bounded in
    let fd : FitsSigned w128 (b.rem -ℤ a.rem) = difference_fits b.rem a.rem b.modulus a.modulus b_low b_high b_most a_low a_high a_most in
    moved (λ (x : ℤ). pos 1 ≤ℤ x) g fg one

pub quotient-gap-requires-clause-multiple : goal.quotient-gap-requires-clause-multiple
quotient-gap-requires-clause-multiple c =
    let a = residue_of c.args.a in
    let b = residue_of c.args.b in
    let g = c.args.common in
    let fa : FitsSigned w128 a.rem = search rules in
    let fb : FitsSigned w128 b.rem = search rules in
    let fam : FitsSigned w128 a.modulus = search rules in
    let fbm : FitsSigned w128 b.modulus = search rules in
    let fg : FitsSigned w128 g = c.ranges.common in
    let d = c.requires.shares in
    let one : pos 1 ≤ℤ g = common_positive a b g d in
    let a_low = c.args.a.proper.rem_low d.first in
    let a_high = c.args.a.proper.rem_high d.first in
    let b_low = c.args.b.proper.rem_low d.second in
    let b_high = c.args.b.proper.rem_high d.second in
    let a_most = c.args.a.proper.bounded in
    let b_most = c.args.b.proper.bounded in
    let fd : FitsSigned w128 (b.rem -ℤ a.rem) = difference_fits b.rem a.rem b.modulus a.modulus b_low b_high b_most a_low a_high a_most in
    let r = c.remainder-rest.result in
    let fr : FitsSigned w128 r = search rules in
    let r_low = c.remainder-rest.ensures.low in
    let sr : InResidue (class_of r b.modulus) (b.rem -ℤ a.rem) = simp to_z-of_z at c.remainder-rest.ensures.same in
    let r_high : r <ℤ b.modulus = simp to_z-of_z at c.remainder-rest.ensures.high in
    moved (λ (x : ℤ). IsMultiple x (to_z w128 (of_z w128 r))) g fg (moved (λ (x : ℤ). IsMultiple g x) r fr (common_in_rest a b g r d sr))

pub remainder-requires : goal.remainder-requires
remainder-requires c =
    let a = residue_of c.args.a in
    let b = residue_of c.args.b in
    let g = c.args.common in
    let fa : FitsSigned w128 a.rem = search rules in
    let fb : FitsSigned w128 b.rem = search rules in
    let fam : FitsSigned w128 a.modulus = search rules in
    let fbm : FitsSigned w128 b.modulus = search rules in
    let fg : FitsSigned w128 g = c.ranges.common in
    let d = c.requires.shares in
    let one : pos 1 ≤ℤ g = common_positive a b g d in
    let a_low = c.args.a.proper.rem_low d.first in
    let a_high = c.args.a.proper.rem_high d.first in
    let b_low = c.args.b.proper.rem_low d.second in
    let b_high = c.args.b.proper.rem_high d.second in
    let a_most = c.args.a.proper.bounded in
    let b_most = c.args.b.proper.bounded in
    let fd : FitsSigned w128 (b.rem -ℤ a.rem) = difference_fits b.rem a.rem b.modulus a.modulus b_low b_high b_most a_low a_high a_most in
    let q = c.quotient-step.result in
    let fq : FitsSigned w128 q = search rules in
    let eq : q *ℤ g ≡ a.modulus = simp to_z-of_z at c.quotient-step.ensures in
    let p = c.quotient-period.result in
    let fp : FitsSigned w128 p = search rules in
    let ep : p *ℤ g ≡ b.modulus = simp to_z-of_z at c.quotient-period.ensures in
    let p1 : pos 1 ≤ℤ p = quotient_positive p g b.modulus ep d.second one in
    moved (λ (x : ℤ). pos 1 ≤ℤ x) p fp p1

pub turns-requires-clause-gap_low : goal.turns-requires-clause-gap_low
turns-requires-clause-gap_low c =
    let a = residue_of c.args.a in
    let b = residue_of c.args.b in
    let g = c.args.common in
    let fa : FitsSigned w128 a.rem = search rules in
    let fb : FitsSigned w128 b.rem = search rules in
    let fam : FitsSigned w128 a.modulus = search rules in
    let fbm : FitsSigned w128 b.modulus = search rules in
    let fg : FitsSigned w128 g = c.ranges.common in
    let d = c.requires.shares in
    let one : pos 1 ≤ℤ g = common_positive a b g d in
    let a_low = c.args.a.proper.rem_low d.first in
    let a_high = c.args.a.proper.rem_high d.first in
    let b_low = c.args.b.proper.rem_low d.second in
    let b_high = c.args.b.proper.rem_high d.second in
    let a_most = c.args.a.proper.bounded in
    let b_most = c.args.b.proper.bounded in
    let fd : FitsSigned w128 (b.rem -ℤ a.rem) = difference_fits b.rem a.rem b.modulus a.modulus b_low b_high b_most a_low a_high a_most in
    let q = c.quotient-step.result in
    let fq : FitsSigned w128 q = search rules in
    let eq : q *ℤ g ≡ a.modulus = simp to_z-of_z at c.quotient-step.ensures in
    let p = c.quotient-period.result in
    let fp : FitsSigned w128 p = search rules in
    let ep : p *ℤ g ≡ b.modulus = simp to_z-of_z at c.quotient-period.ensures in
    let p1 : pos 1 ≤ℤ p = quotient_positive p g b.modulus ep d.second one in
    let r = c.remainder-rest.result in
    let fr : FitsSigned w128 r = search rules in
    let r_low = c.remainder-rest.ensures.low in
    let sr : InResidue (class_of r b.modulus) (b.rem -ℤ a.rem) = simp to_z-of_z at c.remainder-rest.ensures.same in
    let r_high : r <ℤ b.modulus = simp to_z-of_z at c.remainder-rest.ensures.high in
    let gap = c.quotient-gap.result in
    let fgap : FitsSigned w128 gap = search rules in
    let egap : gap *ℤ g ≡ r = simp to_z-of_z at c.quotient-gap.ensures in
    let gb = quotient_bounds gap g r p one egap r_low (subst (λ (x : ℤ). r <ℤ x) (sym ep) r_high) in
    moved (λ (x : ℤ). pos 0 ≤ℤ x) gap fgap gb.0

pub turns-requires-clause-gap_high : goal.turns-requires-clause-gap_high
turns-requires-clause-gap_high c =
    let a = residue_of c.args.a in
    let b = residue_of c.args.b in
    let g = c.args.common in
    let fa : FitsSigned w128 a.rem = search rules in
    let fb : FitsSigned w128 b.rem = search rules in
    let fam : FitsSigned w128 a.modulus = search rules in
    let fbm : FitsSigned w128 b.modulus = search rules in
    let fg : FitsSigned w128 g = c.ranges.common in
    let d = c.requires.shares in
    let one : pos 1 ≤ℤ g = common_positive a b g d in
    let a_low = c.args.a.proper.rem_low d.first in
    let a_high = c.args.a.proper.rem_high d.first in
    let b_low = c.args.b.proper.rem_low d.second in
    let b_high = c.args.b.proper.rem_high d.second in
    let a_most = c.args.a.proper.bounded in
    let b_most = c.args.b.proper.bounded in
    let fd : FitsSigned w128 (b.rem -ℤ a.rem) = difference_fits b.rem a.rem b.modulus a.modulus b_low b_high b_most a_low a_high a_most in
    let q = c.quotient-step.result in
    let fq : FitsSigned w128 q = search rules in
    let eq : q *ℤ g ≡ a.modulus = simp to_z-of_z at c.quotient-step.ensures in
    let p = c.quotient-period.result in
    let fp : FitsSigned w128 p = search rules in
    let ep : p *ℤ g ≡ b.modulus = simp to_z-of_z at c.quotient-period.ensures in
    let p1 : pos 1 ≤ℤ p = quotient_positive p g b.modulus ep d.second one in
    let r = c.remainder-rest.result in
    let fr : FitsSigned w128 r = search rules in
    let r_low = c.remainder-rest.ensures.low in
    let sr : InResidue (class_of r b.modulus) (b.rem -ℤ a.rem) = simp to_z-of_z at c.remainder-rest.ensures.same in
    let r_high : r <ℤ b.modulus = simp to_z-of_z at c.remainder-rest.ensures.high in
    let gap = c.quotient-gap.result in
    let fgap : FitsSigned w128 gap = search rules in
    let egap : gap *ℤ g ≡ r = simp to_z-of_z at c.quotient-gap.ensures in
    let gb = quotient_bounds gap g r p one egap r_low (subst (λ (x : ℤ). r <ℤ x) (sym ep) r_high) in
    moved (λ (x : ℤ). to_z w128 (of_z w128 gap) <ℤ x) p fp (moved (λ (x : ℤ). x <ℤ p) gap fgap gb.1)

pub turns-requires-clause-small : goal.turns-requires-clause-small
turns-requires-clause-small c =
    let a = residue_of c.args.a in
    let b = residue_of c.args.b in
    let g = c.args.common in
    let fa : FitsSigned w128 a.rem = search rules in
    let fb : FitsSigned w128 b.rem = search rules in
    let fam : FitsSigned w128 a.modulus = search rules in
    let fbm : FitsSigned w128 b.modulus = search rules in
    let fg : FitsSigned w128 g = c.ranges.common in
    let d = c.requires.shares in
    let one : pos 1 ≤ℤ g = common_positive a b g d in
    let a_low = c.args.a.proper.rem_low d.first in
    let a_high = c.args.a.proper.rem_high d.first in
    let b_low = c.args.b.proper.rem_low d.second in
    let b_high = c.args.b.proper.rem_high d.second in
    let a_most = c.args.a.proper.bounded in
    let b_most = c.args.b.proper.bounded in
    let fd : FitsSigned w128 (b.rem -ℤ a.rem) = difference_fits b.rem a.rem b.modulus a.modulus b_low b_high b_most a_low a_high a_most in
    let q = c.quotient-step.result in
    let fq : FitsSigned w128 q = search rules in
    let eq : q *ℤ g ≡ a.modulus = simp to_z-of_z at c.quotient-step.ensures in
    let p = c.quotient-period.result in
    let fp : FitsSigned w128 p = search rules in
    let ep : p *ℤ g ≡ b.modulus = simp to_z-of_z at c.quotient-period.ensures in
    let p1 : pos 1 ≤ℤ p = quotient_positive p g b.modulus ep d.second one in
    moved (λ (x : ℤ). x ≤ℤ pos (2 ^ 50)) p fp (small_period a.modulus b.modulus g p q one d.second eq ep c.requires.less (c.requires.small q eq))

pub turns-requires-clause-coprime : goal.turns-requires-clause-coprime
turns-requires-clause-coprime c =
    let a = residue_of c.args.a in
    let b = residue_of c.args.b in
    let g = c.args.common in
    let fa : FitsSigned w128 a.rem = search rules in
    let fb : FitsSigned w128 b.rem = search rules in
    let fam : FitsSigned w128 a.modulus = search rules in
    let fbm : FitsSigned w128 b.modulus = search rules in
    let fg : FitsSigned w128 g = c.ranges.common in
    let d = c.requires.shares in
    let one : pos 1 ≤ℤ g = common_positive a b g d in
    let a_low = c.args.a.proper.rem_low d.first in
    let a_high = c.args.a.proper.rem_high d.first in
    let b_low = c.args.b.proper.rem_low d.second in
    let b_high = c.args.b.proper.rem_high d.second in
    let a_most = c.args.a.proper.bounded in
    let b_most = c.args.b.proper.bounded in
    let fd : FitsSigned w128 (b.rem -ℤ a.rem) = difference_fits b.rem a.rem b.modulus a.modulus b_low b_high b_most a_low a_high a_most in
    let q = c.quotient-step.result in
    let fq : FitsSigned w128 q = search rules in
    let eq : q *ℤ g ≡ a.modulus = simp to_z-of_z at c.quotient-step.ensures in
    let p = c.quotient-period.result in
    let fp : FitsSigned w128 p = search rules in
    let ep : p *ℤ g ≡ b.modulus = simp to_z-of_z at c.quotient-period.ensures in
    let p1 : pos 1 ≤ℤ p = quotient_positive p g b.modulus ep d.second one in
    let rest = c.remainder.result in
    let frest : FitsSigned w128 rest = search rules in
    let srest : InResidue (class_of rest p) q = simp to_z-of_z at c.remainder.ensures.same in
    moved (λ (x : ℤ). IsCoprime x (to_z w128 (of_z w128 p))) rest frest (moved (λ (x : ℤ). IsCoprime rest x) p fp (coprime_step p q rest srest (coprime_swap q p (coprime_quotients a.modulus b.modulus g q p d.divisor one eq ep))))

pub overflow_mul-result : goal.overflow_mul-result
overflow_mul-result c =
    let a = residue_of c.args.a in
    let b = residue_of c.args.b in
    let g = c.args.common in
    let fa : FitsSigned w128 a.rem = search rules in
    let fb : FitsSigned w128 b.rem = search rules in
    let fam : FitsSigned w128 a.modulus = search rules in
    let fbm : FitsSigned w128 b.modulus = search rules in
    let fg : FitsSigned w128 g = c.ranges.common in
    let d = c.requires.shares in
    let one : pos 1 ≤ℤ g = common_positive a b g d in
    let a_low = c.args.a.proper.rem_low d.first in
    let a_high = c.args.a.proper.rem_high d.first in
    let b_low = c.args.b.proper.rem_low d.second in
    let b_high = c.args.b.proper.rem_high d.second in
    let a_most = c.args.a.proper.bounded in
    let b_most = c.args.b.proper.bounded in
    let fd : FitsSigned w128 (b.rem -ℤ a.rem) = difference_fits b.rem a.rem b.modulus a.modulus b_low b_high b_most a_low a_high a_most in
    let q = c.quotient-step.result in
    let fq : FitsSigned w128 q = search rules in
    let eq : q *ℤ g ≡ a.modulus = simp to_z-of_z at c.quotient-step.ensures in
    let p = c.quotient-period.result in
    let fp : FitsSigned w128 p = search rules in
    let ep : p *ℤ g ≡ b.modulus = simp to_z-of_z at c.quotient-period.ensures in
    let p1 : pos 1 ≤ℤ p = quotient_positive p g b.modulus ep d.second one in
    let r = c.remainder-rest.result in
    let fr : FitsSigned w128 r = search rules in
    let r_low = c.remainder-rest.ensures.low in
    let sr : InResidue (class_of r b.modulus) (b.rem -ℤ a.rem) = simp to_z-of_z at c.remainder-rest.ensures.same in
    let r_high : r <ℤ b.modulus = simp to_z-of_z at c.remainder-rest.ensures.high in
    let gap = c.quotient-gap.result in
    let fgap : FitsSigned w128 gap = search rules in
    let egap : gap *ℤ g ≡ r = simp to_z-of_z at c.quotient-gap.ensures in
    let gb = quotient_bounds gap g r p one egap r_low (subst (λ (x : ℤ). r <ℤ x) (sym ep) r_high) in
    let rest = c.remainder.result in
    let frest : FitsSigned w128 rest = search rules in
    let srest : InResidue (class_of rest p) q = simp to_z-of_z at c.remainder.ensures.same in
    let t = c.turns.result in
    let ft : FitsSigned w128 t = search rules in
    let turn : IsTurn rest gap p t = simp to_z-of_z at c.turns.ensures in
    let reach = turn_reach a.modulus b.modulus g p q t d.first eq ep turn.low turn.high in
    let small = c.requires.small q eq in
    let fm : FitsSigned w128 (a.modulus *ℤ t) = reach_fits (a.modulus *ℤ t) _ reach.0 reach.1 small in
    let fs : FitsSigned w128 (a.rem +ℤ (a.modulus *ℤ t)) = offset_fits a.rem a.modulus (a.modulus *ℤ t) _ a_low a_high a_most reach.0 reach.1 small in
    simp to_z-of_z fm

pub overflow_add-result : goal.overflow_add-result
overflow_add-result c =
    let a = residue_of c.args.a in
    let b = residue_of c.args.b in
    let g = c.args.common in
    let fa : FitsSigned w128 a.rem = search rules in
    let fb : FitsSigned w128 b.rem = search rules in
    let fam : FitsSigned w128 a.modulus = search rules in
    let fbm : FitsSigned w128 b.modulus = search rules in
    let fg : FitsSigned w128 g = c.ranges.common in
    let d = c.requires.shares in
    let one : pos 1 ≤ℤ g = common_positive a b g d in
    let a_low = c.args.a.proper.rem_low d.first in
    let a_high = c.args.a.proper.rem_high d.first in
    let b_low = c.args.b.proper.rem_low d.second in
    let b_high = c.args.b.proper.rem_high d.second in
    let a_most = c.args.a.proper.bounded in
    let b_most = c.args.b.proper.bounded in
    let fd : FitsSigned w128 (b.rem -ℤ a.rem) = difference_fits b.rem a.rem b.modulus a.modulus b_low b_high b_most a_low a_high a_most in
    let q = c.quotient-step.result in
    let fq : FitsSigned w128 q = search rules in
    let eq : q *ℤ g ≡ a.modulus = simp to_z-of_z at c.quotient-step.ensures in
    let p = c.quotient-period.result in
    let fp : FitsSigned w128 p = search rules in
    let ep : p *ℤ g ≡ b.modulus = simp to_z-of_z at c.quotient-period.ensures in
    let p1 : pos 1 ≤ℤ p = quotient_positive p g b.modulus ep d.second one in
    let r = c.remainder-rest.result in
    let fr : FitsSigned w128 r = search rules in
    let r_low = c.remainder-rest.ensures.low in
    let sr : InResidue (class_of r b.modulus) (b.rem -ℤ a.rem) = simp to_z-of_z at c.remainder-rest.ensures.same in
    let r_high : r <ℤ b.modulus = simp to_z-of_z at c.remainder-rest.ensures.high in
    let gap = c.quotient-gap.result in
    let fgap : FitsSigned w128 gap = search rules in
    let egap : gap *ℤ g ≡ r = simp to_z-of_z at c.quotient-gap.ensures in
    let gb = quotient_bounds gap g r p one egap r_low (subst (λ (x : ℤ). r <ℤ x) (sym ep) r_high) in
    let rest = c.remainder.result in
    let frest : FitsSigned w128 rest = search rules in
    let srest : InResidue (class_of rest p) q = simp to_z-of_z at c.remainder.ensures.same in
    let t = c.turns.result in
    let ft : FitsSigned w128 t = search rules in
    let turn : IsTurn rest gap p t = simp to_z-of_z at c.turns.ensures in
    let reach = turn_reach a.modulus b.modulus g p q t d.first eq ep turn.low turn.high in
    let small = c.requires.small q eq in
    let fm : FitsSigned w128 (a.modulus *ℤ t) = reach_fits (a.modulus *ℤ t) _ reach.0 reach.1 small in
    let fs : FitsSigned w128 (a.rem +ℤ (a.modulus *ℤ t)) = offset_fits a.rem a.modulus (a.modulus *ℤ t) _ a_low a_high a_most reach.0 reach.1 small in
    simp to_z-of_z fs

pub returns-clause-first : goal.returns-clause-first
returns-clause-first c =
    let a = residue_of c.args.a in
    let b = residue_of c.args.b in
    let g = c.args.common in
    let fa : FitsSigned w128 a.rem = search rules in
    let fb : FitsSigned w128 b.rem = search rules in
    let fam : FitsSigned w128 a.modulus = search rules in
    let fbm : FitsSigned w128 b.modulus = search rules in
    let fg : FitsSigned w128 g = c.ranges.common in
    let d = c.requires.shares in
    let one : pos 1 ≤ℤ g = common_positive a b g d in
    let a_low = c.args.a.proper.rem_low d.first in
    let a_high = c.args.a.proper.rem_high d.first in
    let b_low = c.args.b.proper.rem_low d.second in
    let b_high = c.args.b.proper.rem_high d.second in
    let a_most = c.args.a.proper.bounded in
    let b_most = c.args.b.proper.bounded in
    let fd : FitsSigned w128 (b.rem -ℤ a.rem) = difference_fits b.rem a.rem b.modulus a.modulus b_low b_high b_most a_low a_high a_most in
    let q = c.quotient-step.result in
    let fq : FitsSigned w128 q = search rules in
    let eq : q *ℤ g ≡ a.modulus = simp to_z-of_z at c.quotient-step.ensures in
    let p = c.quotient-period.result in
    let fp : FitsSigned w128 p = search rules in
    let ep : p *ℤ g ≡ b.modulus = simp to_z-of_z at c.quotient-period.ensures in
    let p1 : pos 1 ≤ℤ p = quotient_positive p g b.modulus ep d.second one in
    let r = c.remainder-rest.result in
    let fr : FitsSigned w128 r = search rules in
    let r_low = c.remainder-rest.ensures.low in
    let sr : InResidue (class_of r b.modulus) (b.rem -ℤ a.rem) = simp to_z-of_z at c.remainder-rest.ensures.same in
    let r_high : r <ℤ b.modulus = simp to_z-of_z at c.remainder-rest.ensures.high in
    let gap = c.quotient-gap.result in
    let fgap : FitsSigned w128 gap = search rules in
    let egap : gap *ℤ g ≡ r = simp to_z-of_z at c.quotient-gap.ensures in
    let gb = quotient_bounds gap g r p one egap r_low (subst (λ (x : ℤ). r <ℤ x) (sym ep) r_high) in
    let rest = c.remainder.result in
    let frest : FitsSigned w128 rest = search rules in
    let srest : InResidue (class_of rest p) q = simp to_z-of_z at c.remainder.ensures.same in
    let t = c.turns.result in
    let ft : FitsSigned w128 t = search rules in
    let turn : IsTurn rest gap p t = simp to_z-of_z at c.turns.ensures in
    let reach = turn_reach a.modulus b.modulus g p q t d.first eq ep turn.low turn.high in
    let small = c.requires.small q eq in
    let fm : FitsSigned w128 (a.modulus *ℤ t) = reach_fits (a.modulus *ℤ t) _ reach.0 reach.1 small in
    let fs : FitsSigned w128 (a.rem +ℤ (a.modulus *ℤ t)) = offset_fits a.rem a.modulus (a.modulus *ℤ t) _ a_low a_high a_most reach.0 reach.1 small in
    simp to_z-of_z (in_first a t)

pub returns-clause-second : goal.returns-clause-second
returns-clause-second c =
    let a = residue_of c.args.a in
    let b = residue_of c.args.b in
    let g = c.args.common in
    let fa : FitsSigned w128 a.rem = search rules in
    let fb : FitsSigned w128 b.rem = search rules in
    let fam : FitsSigned w128 a.modulus = search rules in
    let fbm : FitsSigned w128 b.modulus = search rules in
    let fg : FitsSigned w128 g = c.ranges.common in
    let d = c.requires.shares in
    let one : pos 1 ≤ℤ g = common_positive a b g d in
    let a_low = c.args.a.proper.rem_low d.first in
    let a_high = c.args.a.proper.rem_high d.first in
    let b_low = c.args.b.proper.rem_low d.second in
    let b_high = c.args.b.proper.rem_high d.second in
    let a_most = c.args.a.proper.bounded in
    let b_most = c.args.b.proper.bounded in
    let fd : FitsSigned w128 (b.rem -ℤ a.rem) = difference_fits b.rem a.rem b.modulus a.modulus b_low b_high b_most a_low a_high a_most in
    let q = c.quotient-step.result in
    let fq : FitsSigned w128 q = search rules in
    let eq : q *ℤ g ≡ a.modulus = simp to_z-of_z at c.quotient-step.ensures in
    let p = c.quotient-period.result in
    let fp : FitsSigned w128 p = search rules in
    let ep : p *ℤ g ≡ b.modulus = simp to_z-of_z at c.quotient-period.ensures in
    let p1 : pos 1 ≤ℤ p = quotient_positive p g b.modulus ep d.second one in
    let r = c.remainder-rest.result in
    let fr : FitsSigned w128 r = search rules in
    let r_low = c.remainder-rest.ensures.low in
    let sr : InResidue (class_of r b.modulus) (b.rem -ℤ a.rem) = simp to_z-of_z at c.remainder-rest.ensures.same in
    let r_high : r <ℤ b.modulus = simp to_z-of_z at c.remainder-rest.ensures.high in
    let gap = c.quotient-gap.result in
    let fgap : FitsSigned w128 gap = search rules in
    let egap : gap *ℤ g ≡ r = simp to_z-of_z at c.quotient-gap.ensures in
    let gb = quotient_bounds gap g r p one egap r_low (subst (λ (x : ℤ). r <ℤ x) (sym ep) r_high) in
    let rest = c.remainder.result in
    let frest : FitsSigned w128 rest = search rules in
    let srest : InResidue (class_of rest p) q = simp to_z-of_z at c.remainder.ensures.same in
    let t = c.turns.result in
    let ft : FitsSigned w128 t = search rules in
    let turn : IsTurn rest gap p t = simp to_z-of_z at c.turns.ensures in
    let reach = turn_reach a.modulus b.modulus g p q t d.first eq ep turn.low turn.high in
    let small = c.requires.small q eq in
    let fm : FitsSigned w128 (a.modulus *ℤ t) = reach_fits (a.modulus *ℤ t) _ reach.0 reach.1 small in
    let fs : FitsSigned w128 (a.rem +ℤ (a.modulus *ℤ t)) = offset_fits a.rem a.modulus (a.modulus *ℤ t) _ a_low a_high a_most reach.0 reach.1 small in
    simp to_z-of_z (in_second a b g p q rest r gap t eq ep egap srest sr turn)
