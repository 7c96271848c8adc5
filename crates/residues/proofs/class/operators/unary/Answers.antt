use Rattle.std.proofs.Common.{◌≡◌, subst}
use Rattle.std.specs.Prelude.{Some}
use Rattle.num_api.specs.declared.expr.NOp.{NOp}
use Rattle.num_api.specs.Value.{unary_value}
use Rattle.residues.specs.Class.{residue_of}
use Rattle.residues.proofs.Operators.{negates}
use Rattle.residues.proofs.ClassBounds.{negation_bounds, negation_default}
use Rattle.residues.proofs.class.operators.unary.Goals as goal

pub returns-in-Neg-clause-holds : goal.returns-in-Neg-clause-holds
returns-in-Neg-clause-holds c = λ x n h v. negates c.args.op (residue_of c.point.result) (residue_of c.args.a) (residue_of c.difference.result) x n c.in-Neg.is c.point.ensures c.difference.ensures.step h v

pub returns-in-Not-clause-holds : goal.returns-in-Not-clause-holds
returns-in-Not-clause-holds c = λ x n h v. c.denial.ensures x n h (subst (λ (o : NOp). unary_value o x ≡ Some n) c.in-Not.is v)

pub returns-in-Neg-clause-bounds : goal.returns-in-Neg-clause-bounds
returns-in-Neg-clause-bounds c = negation_bounds c.args.op (residue_of c.point.result) (residue_of c.args.a) (residue_of c.difference.result) c.in-Neg.is c.point.ensures c.difference.ensures.bounds

pub returns-in-Not-clause-bounds : goal.returns-in-Not-clause-bounds
returns-in-Not-clause-bounds c = rw c.in-Not.is tt

pub returns-in_default-clause-bounds : goal.returns-in_default-clause-bounds
returns-in_default-clause-bounds c = negation_default c.args.op (residue_of c.args.a) (residue_of c.all.result) c.in_default.not-Neg
