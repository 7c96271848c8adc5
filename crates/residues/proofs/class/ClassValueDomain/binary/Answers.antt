use Rattle.residues.specs.Class.{residue_of}
use Rattle.residues.proofs.Operators.{fold_point}
use Rattle.residues.proofs.class.ClassValueDomain.binary.Goals as goal

pub returns-clause-fold_sum : goal.returns-clause-fold_sum
returns-clause-fold_sum c = λ d t al e h k. c.binary.ensures.fold_sum d al e h k

pub returns-clause-fold_left : goal.returns-clause-fold_left
returns-clause-fold_left c = λ d n t al e h p. c.binary.ensures.fold_left d al e (fold_point d n (residue_of c.args.a.now) h p)

pub returns-clause-fold_right : goal.returns-clause-fold_right
returns-clause-fold_right c = λ d n t al e h p. c.binary.ensures.fold_right d al e (fold_point d n (residue_of c.args.b.now) h p)
