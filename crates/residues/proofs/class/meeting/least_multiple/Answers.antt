use Rattle.std.proofs.Common.{◌≡◌, ◌^◌, ℤ, pos, ◌*ℤ◌, ◌≤ℤ◌, ◌<ℤ◌, arith, sym, ◌∙◌, ap, subst, FitsSigned, rules}
use Rattle.std.proofs.lemmas.Int.{ints, to_z-of_z}
use mir.Syntax.{w128}
use Rattle.residues.specs.Class.{residue_of}
use Rattle.residues.proofs.Moves.{moved}
use Rattle.residues.proofs.Products.{not_negative_product}
use Rattle.residues.proofs.Crt.{common_positive, quotient_positive, same_quotient, large_from_unfit}
use Rattle.residues.proofs.class.meeting.least_multiple.Goals as goal

pub returns-in-Some-clause-some : goal.returns-in-Some-clause-some
returns-in-Some-clause-some c =
    let a = residue_of c.args.a in
    let b = residue_of c.args.b in
    let g = c.args.common in
    let d = c.requires in
    let one : pos 1 ≤ℤ g = common_positive a b g d in
    let fg : FitsSigned w128 g = c.ranges.common in
    let fam : FitsSigned w128 a.modulus = search rules in
    let fbm : FitsSigned w128 b.modulus = search rules in
    let v = c.quotient.result in
    let fv : FitsSigned w128 v = search rules in
    let ev : v *ℤ g ≡ a.modulus = simp to_z-of_z at c.quotient.ensures in
    let v1 : pos 1 ≤ℤ v = quotient_positive v g a.modulus ev d.first one in
    let low : pos 0 ≤ℤ (v *ℤ b.modulus) = not_negative_product v b.modulus (omega (arith, ints)) c.args.b.proper.not_negative in
    let m = c.in-Some.modulus in
    let fm : FitsSigned w128 m = search rules in
    let em : m ≡ v *ℤ b.modulus = (simp to_z-of_z at c.in-Some.ensures).1 in
    let high : m ≤ℤ pos (2 ^ 100) = omega (arith, ints) in (
      moved (λ (x : ℤ). pos 0 ≤ℤ x) m fm (subst (λ (x : ℤ). pos 0 ≤ℤ x) (sym em) low),
      moved (λ (x : ℤ). x ≤ℤ pos (2 ^ 100)) m fm high,
      λ q e. moved (λ (x : ℤ). x ≡ q *ℤ b.modulus) m fm (em ∙ ap (λ (x : ℤ). x *ℤ b.modulus) (same_quotient v q g a.modulus one ev e)),
    )

pub returns-in_default-clause-none : goal.returns-in_default-clause-none
returns-in_default-clause-none c =
    let a = residue_of c.args.a in
    let b = residue_of c.args.b in
    let g = c.args.common in
    let d = c.requires in
    let one : pos 1 ≤ℤ g = common_positive a b g d in
    let fg : FitsSigned w128 g = c.ranges.common in
    let fam : FitsSigned w128 a.modulus = search rules in
    let fbm : FitsSigned w128 b.modulus = search rules in
    let v = c.quotient.result in
    let fv : FitsSigned w128 v = search rules in
    let ev : v *ℤ g ≡ a.modulus = simp to_z-of_z at c.quotient.ensures in
    let v1 : pos 1 ≤ℤ v = quotient_positive v g a.modulus ev d.first one in
    let low : pos 0 ≤ℤ (v *ℤ b.modulus) = not_negative_product v b.modulus (omega (arith, ints)) c.args.b.proper.not_negative in
    let m = c.in-Some.modulus in
    let fm : FitsSigned w128 m = search rules in
    let em : m ≡ v *ℤ b.modulus = (simp to_z-of_z at c.in-Some.ensures).1 in
    let high : pos (2 ^ 100) <ℤ m = omega (arith, ints) in
    λ q e. subst (λ (x : ℤ). pos (2 ^ 100) <ℤ x) (em ∙ ap (λ (x : ℤ). x *ℤ b.modulus) (same_quotient v q g a.modulus one ev e)) high

pub returns-in_default-2-clause-none : goal.returns-in_default-2-clause-none
returns-in_default-2-clause-none c =
    let a = residue_of c.args.a in
    let b = residue_of c.args.b in
    let g = c.args.common in
    let d = c.requires in
    let one : pos 1 ≤ℤ g = common_positive a b g d in
    let fg : FitsSigned w128 g = c.ranges.common in
    let fam : FitsSigned w128 a.modulus = search rules in
    let fbm : FitsSigned w128 b.modulus = search rules in
    let v = c.quotient.result in
    let fv : FitsSigned w128 v = search rules in
    let ev : v *ℤ g ≡ a.modulus = simp to_z-of_z at c.quotient.ensures in
    let v1 : pos 1 ≤ℤ v = quotient_positive v g a.modulus ev d.first one in
    let low : pos 0 ≤ℤ (v *ℤ b.modulus) = not_negative_product v b.modulus (omega (arith, ints)) c.args.b.proper.not_negative in
    let unfit : FitsSigned w128 (v *ℤ b.modulus) → ⊥ = simp to_z-of_z at c.in_default.ensures in
    λ q e. subst (λ (x : ℤ). pos (2 ^ 100) <ℤ x) (ap (λ (x : ℤ). x *ℤ b.modulus) (same_quotient v q g a.modulus one ev e)) (large_from_unfit (v *ℤ b.modulus) low unfit)
