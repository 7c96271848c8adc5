use Rattle.residues.specs.Class.{residue_of}
use Rattle.residues.proofs.Operators.{in_all}
use Rattle.residues.proofs.class.ranges.within.Goals as goal

pub returns-in_default-clause-some : goal.returns-in_default-clause-some
returns-in_default-clause-some c = λ n h. in_all (residue_of c.all.result) n c.all.ensures
