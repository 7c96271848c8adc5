use Rattle.std.proofs.Common.{ℤ, FitsSigned, rules}
use Rattle.std.proofs.lemmas.Int.{to_z-of_z}
use mir.Syntax.{w128}
use Rattle.num_api.specs.Residues.{IsMultiple}
use Rattle.residues.specs.Class.{residue_of}
use Rattle.residues.specs.Classes.{IsGreatestDivisor, IsCommonStep}
use Rattle.residues.proofs.Moves.{moved}
use Rattle.residues.proofs.Steps.{common_from_greatest, divides_greatest}
use Rattle.residues.proofs.class.arithmetic.common_step.Goals as goal

pub returns-clause-step : goal.returns-clause-step
returns-clause-step c =
    let a = c.args.a.proper in
    let b = c.args.b.proper in
    let f : FitsSigned w128 (residue_of c.args.a).modulus = search rules in
    let g : FitsSigned w128 (residue_of c.args.b).modulus = search rules in
    let h : FitsSigned w128 c.greatest_divisor.result = search rules in
    let d : IsGreatestDivisor (residue_of c.args.a).modulus (residue_of c.args.b).modulus c.greatest_divisor.result = simp to_z-of_z at c.greatest_divisor.ensures in
    moved (λ (t : ℤ). IsCommonStep (residue_of c.args.a).modulus (residue_of c.args.b).modulus t) c.greatest_divisor.result h
    (common_from_greatest _ _ c.greatest_divisor.result d a.not_negative a.bounded b.not_negative b.bounded)

pub returns-clause-greatest : goal.returns-clause-greatest
returns-clause-greatest c =
    let f : FitsSigned w128 (residue_of c.args.a).modulus = search rules in
    let g : FitsSigned w128 (residue_of c.args.b).modulus = search rules in
    let h : FitsSigned w128 c.greatest_divisor.result = search rules in
    let d : IsGreatestDivisor (residue_of c.args.a).modulus (residue_of c.args.b).modulus c.greatest_divisor.result = simp to_z-of_z at c.greatest_divisor.ensures in
    λ e i j. moved (λ (t : ℤ). IsMultiple e t) c.greatest_divisor.result h (divides_greatest e _ _ c.greatest_divisor.result d i j)
