use Rattle.std.proofs.Common.{ℤ, pos, ◌-ℤ◌, arith, sym, subst, FitsSigned, rules}
use Rattle.std.proofs.lemmas.Int.{ints, to_z-of_z}
use mir.Syntax.{w128}
use Rattle.num_api.specs.declared.message.Residue.{Residue}
use Rattle.num_api.specs.Residues.{InResidue}
use Rattle.residues.specs.Class.{residue_of}
use Rattle.residues.specs.Classes.{IsClassOf, IsGreatestDivisor}
use Rattle.num_api.proofs.Multiples.{in_from_off}
use Rattle.residues.proofs.Products.{rest_holds, rest_value}
use Rattle.std.proofs.Common.{◌≤ℤ◌, ◌^◌}
use Rattle.residues.proofs.ClassBounds.{rest_bounds, rest_step_small}
use Rattle.residues.proofs.class.products.rest.Goals as goal

pub returns-then-step-gt-GREATEST_MODULUS-clause-holds : goal.returns-then-step-gt-GREATEST_MODULUS-clause-holds
returns-then-step-gt-GREATEST_MODULUS-clause-holds c =
    λ x y n h k e. subst (λ (r : Residue). InResidue r n) (sym c.all.ensures) (in_from_off (pos 0) (pos 1) n (n -ℤ pos 0, omega (arith, ints)))

pub returns-clause-holds : goal.returns-clause-holds
returns-clause-holds c =
    let a = residue_of c.args.a in
    let b = residue_of c.args.b in
    let f1 : FitsSigned w128 a.rem = search rules in
    let f2 : FitsSigned w128 a.modulus = search rules in
    let f3 : FitsSigned w128 c.factor.result = search rules in
    let f4 : FitsSigned w128 c.greatest_divisor-step.result = search rules in
    let d : IsGreatestDivisor a.modulus c.factor.result c.greatest_divisor-step.result = simp to_z-of_z at c.greatest_divisor-step.ensures in
    let s : IsClassOf a.rem c.greatest_divisor-step.result (residue_of c.of.result) = simp to_z-of_z at c.of.ensures in
    λ x y n h k e. subst (λ (t : ℤ). InResidue (residue_of c.of.result) t) (rest_value x y n e)
    (rest_holds a (residue_of c.of.result) c.greatest_divisor-step.result c.factor.result x y s d.first d.second (c.factor.ensures.divides y k) h)

pub returns-then-step-gt-GREATEST_MODULUS-clause-bounds : goal.returns-then-step-gt-GREATEST_MODULUS-clause-bounds
returns-then-step-gt-GREATEST_MODULUS-clause-bounds c = λ h small d p q t.
    let a = residue_of c.args.a in
    let b = residue_of c.args.b in
    let f2 : FitsSigned w128 a.modulus = search rules in
    let f3 : FitsSigned w128 c.factor.result = search rules in
    let f4 : FitsSigned w128 c.greatest_divisor-step.result = search rules in
    let divisor : IsGreatestDivisor a.modulus c.factor.result c.greatest_divisor-step.result = simp to_z-of_z at c.greatest_divisor-step.ensures in
    let most : c.greatest_divisor-step.result ≤ℤ pos (2 ^ 100) =
    rest_step_small a b c.factor.result c.greatest_divisor-step.result c.args.a.proper.not_negative c.args.a.proper.bounded c.args.b.proper.not_negative c.args.b.proper.bounded c.factor.ensures.not_negative c.factor.ensures.factor divisor small in
    absurd (omega (arith, ints))

pub returns-clause-bounds : goal.returns-clause-bounds
returns-clause-bounds c =
    let a = residue_of c.args.a in
    let b = residue_of c.args.b in
    let f1 : FitsSigned w128 a.rem = search rules in
    let f2 : FitsSigned w128 a.modulus = search rules in
    let f3 : FitsSigned w128 c.factor.result = search rules in
    let f4 : FitsSigned w128 c.greatest_divisor-step.result = search rules in
    let d : IsGreatestDivisor a.modulus c.factor.result c.greatest_divisor-step.result = simp to_z-of_z at c.greatest_divisor-step.ensures in
    let s : IsClassOf a.rem c.greatest_divisor-step.result (residue_of c.of.result) = simp to_z-of_z at c.of.ensures in
    rest_bounds a b (residue_of c.of.result) c.factor.result c.greatest_divisor-step.result c.factor.ensures.factor d s
