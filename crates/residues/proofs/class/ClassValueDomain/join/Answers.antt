use Rattle.residues.specs.Class.{residue_of}
use Rattle.residues.proofs.Members.{in_from_lies}
use Rattle.residues.proofs.class.ClassValueDomain.join.Goals as goal

pub returns-clause-left : goal.returns-clause-left
returns-clause-left c = λ n h. in_from_lies (residue_of c.args.self.now) (residue_of c.joined.result) n c.joined.ensures.left h

pub returns-clause-right : goal.returns-clause-right
returns-clause-right c = λ n h. in_from_lies (residue_of c.args.other.now) (residue_of c.joined.result) n c.joined.ensures.right h
