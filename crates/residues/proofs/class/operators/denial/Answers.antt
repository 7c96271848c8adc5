use Rattle.residues.specs.Class.{residue_of}
use Rattle.residues.proofs.Operators.{in_all}
use Rattle.residues.proofs.class.operators.denial.Goals as goal

pub returns : goal.returns
returns c = λ x n h v. in_all (residue_of c.all.result) n c.all.ensures
