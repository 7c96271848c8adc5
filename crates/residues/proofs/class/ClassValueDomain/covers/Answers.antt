use Rattle.std.proofs.Common.{sym, ◌∙◌}
use Rattle.residues.specs.Class.{residue_of}
use Rattle.residues.proofs.Members.{in_from_lies}
use Rattle.residues.proofs.Lattice.{lies_from_holds}
use Rattle.residues.proofs.class.ClassValueDomain.covers.Goals as goal

pub returns-clause-included : goal.returns-clause-included
returns-clause-included c = λ h n i.
    in_from_lies (residue_of c.args.other.now) (residue_of c.args.self.now) n
    (lies_from_holds (residue_of c.args.self.now) (residue_of c.args.other.now) c.args.self.now.proper (sym c.holds_all.ensures ∙ h)) i
