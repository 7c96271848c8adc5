use Rattle.std.proofs.Common.{◌≡◌, ℤ, pos, arith, sym, subst, FitsSigned}
use Rattle.std.proofs.lemmas.Int.{ints, to_z-of_z}
use mir.Syntax.{w128}
use Rattle.num_api.specs.declared.message.Residue.{Residue}
use Rattle.residues.specs.Class.{residue_of}
use Rattle.num_api.specs.Residues.{class_of}
use Rattle.residues.specs.Classes.{IsClassOf}
use Rattle.residues.proofs.Members.{is_class_of_itself}
use Rattle.residues.proofs.class.Class.of.Goals as goal

pub returns-then-modulus-eq0 : goal.returns-then-modulus-eq0
returns-then-modulus-eq0 c =
    let fits : FitsSigned w128 c.args.rem = c.ranges.rem in
    let e : pos 0 ≡ c.args.modulus = omega (arith, ints) in
    let p : residue_of c.point.result ≡ class_of c.args.rem (pos 0) = simp to_z-of_z at c.point.ensures in
    subst (λ (m : ℤ). IsClassOf c.args.rem m (residue_of c.point.result)) e
    (subst (λ (r : Residue). IsClassOf c.args.rem (pos 0) r) (sym p) (is_class_of_itself c.args.rem (pos 0)))
