use Rattle.std.proofs.Common.{◌-ℤ◌, arith, FitsSigned, rules}
use Rattle.std.proofs.lemmas.Int.{ints, to_z-of_z}
use mir.Syntax.{w128}
use Rattle.num_api.specs.Residues.{InResidue}
use Rattle.residues.specs.Class.{residue_of}
use Rattle.num_api.specs.Residues.{class_of}
use Rattle.residues.specs.Classes.{IsClassOf}
use Rattle.residues.proofs.Steps.{class_of_difference}
use Rattle.residues.proofs.class.arithmetic.wrapped_difference.Goals as goal

pub returns : goal.returns
returns c =
    let f : FitsSigned w128 c.args.x = c.ranges.x in
    let g : FitsSigned w128 c.args.y = c.ranges.y in
    let h : FitsSigned w128 c.args.modulus = c.ranges.modulus in
    let i : FitsSigned w128 c.remainder.result = search rules in
    let j : FitsSigned w128 c.remainder-2.result = search rules in
    let u : InResidue (class_of c.remainder.result c.args.modulus) c.args.x = simp to_z-of_z at c.remainder.ensures.same in
    let v : InResidue (class_of c.remainder-2.result c.args.modulus) c.args.y = simp to_z-of_z at c.remainder-2.ensures.same in
    let k : FitsSigned w128 (c.remainder.result -ℤ c.remainder-2.result) = omega (arith, ints) in
    let w : IsClassOf (c.remainder.result -ℤ c.remainder-2.result) c.args.modulus (residue_of c.of.result) = simp to_z-of_z at c.of.ensures in
    class_of_difference c.args.x c.args.y c.remainder.result c.remainder-2.result c.args.modulus (residue_of c.of.result) u v w
