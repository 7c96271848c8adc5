use Rattle.std.proofs.Common.{pos, ◌^◌, ◌<ℤ◌, arith, FitsSigned, rules}
use Rattle.std.proofs.lemmas.Int.{ints, to_z-of_z}
use mir.Syntax.{w128}
use Rattle.residues.specs.Class.{residue_of}
use Rattle.residues.specs.Classes.{IsClassOf, IsGreatestDivisor}
use Rattle.residues.proofs.class.products.small_class.Goals as goal

pub returns-clause-some : goal.returns-clause-some
returns-clause-some c =
    let e : FitsSigned w128 c.args.rem = c.ranges.rem in
    let f : FitsSigned w128 c.args.m = c.ranges.m in
    let g : FitsSigned w128 c.args.n = c.ranges.n in
    let h : FitsSigned w128 c.greatest_divisor-step.result = search rules in
    let d : IsGreatestDivisor c.args.m c.args.n c.greatest_divisor-step.result = simp to_z-of_z at c.greatest_divisor-step.ensures in
    let p : IsClassOf c.args.rem c.greatest_divisor-step.result (residue_of c.of.result) = simp to_z-of_z at c.of.ensures in
    (c.greatest_divisor-step.result, d, p)

pub returns-then-step-gt-GREATEST_MODULUS-clause-none : goal.returns-then-step-gt-GREATEST_MODULUS-clause-none
returns-then-step-gt-GREATEST_MODULUS-clause-none c =
    let e : FitsSigned w128 c.args.rem = c.ranges.rem in
    let f : FitsSigned w128 c.args.m = c.ranges.m in
    let g : FitsSigned w128 c.args.n = c.ranges.n in
    let h : FitsSigned w128 c.greatest_divisor-step.result = search rules in
    let d : IsGreatestDivisor c.args.m c.args.n c.greatest_divisor-step.result = simp to_z-of_z at c.greatest_divisor-step.ensures in
    let large : pos (2 ^ 100) <ℤ c.greatest_divisor-step.result = omega (arith, ints) in
    (c.greatest_divisor-step.result, d, large)
