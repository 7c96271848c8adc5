use Rattle.std.proofs.Common.{FitsSigned, rules}
use Rattle.std.proofs.lemmas.Int.{to_z-of_z}
use mir.Syntax.{w128}
use Rattle.residues.specs.Class.{residue_of}
use Rattle.residues.proofs.class.bits.common_factor.Goals as goal

pub returns-clause-greatest : goal.returns-clause-greatest
returns-clause-greatest c =
    let a = residue_of c.args.a in
    let f : FitsSigned w128 a.rem = search rules in
    let g : FitsSigned w128 a.modulus = search rules in
    let h : FitsSigned w128 c.common_power.result = record { sfits = c.common_power.type_inv } in
    rw (to_z-of_z w128 c.common_power.result h) (rw (to_z-of_z w128 a.rem f, to_z-of_z w128 a.modulus g) at c.common_power.ensures.greatest)
