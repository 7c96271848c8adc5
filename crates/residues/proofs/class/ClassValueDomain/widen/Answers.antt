use Rattle.residues.specs.Class.{residue_of}
use Rattle.residues.proofs.Members.{in_from_lies}
use Rattle.residues.proofs.Lattice.{weight_no_rise, weight_falls}
use Rattle.residues.proofs.class.ClassValueDomain.widen.Goals as goal

pub returns-clause-left : goal.returns-clause-left
returns-clause-left g c = λ n h. in_from_lies (residue_of c.args.self.now) (residue_of c.joined.result) n c.joined.ensures.left h

pub returns-clause-right : goal.returns-clause-right
returns-clause-right g c = λ n h. in_from_lies (residue_of c.args.next.now) (residue_of c.joined.result) n c.joined.ensures.right h

pub returns-clause-no_rise : goal.returns-clause-no_rise
returns-clause-no_rise g c = weight_no_rise (residue_of c.args.self.now) (residue_of c.joined.result) c.args.self.now.proper c.joined.result.proper c.joined.ensures.left

pub returns-clause-falls : goal.returns-clause-falls
returns-clause-falls g c = λ h. weight_falls (residue_of c.args.self.now) (residue_of c.args.next.now) (residue_of c.joined.result) c.args.self.now.proper c.joined.result.proper c.joined.ensures.left c.joined.ensures.right h
