use Rattle.residues.specs.Class.{residue_of}
use Rattle.residues.proofs.Steps.{sum_folds}
use Rattle.residues.proofs.Operators.{adds, subtracts, multiplies, shifts}
use Rattle.residues.proofs.ClassBounds.{shift_bounds, is_other}
use Rattle.residues.proofs.class.operators.by_steps.Goals as goal

pub returns-in-Add-clause-holds : goal.returns-in-Add-clause-holds
returns-in-Add-clause-holds c = λ x y n h k v. adds c.args.op (residue_of c.args.a) (residue_of c.args.b) (residue_of c.sum.result) x y n c.in-Add.is c.sum.ensures.step h k v

pub returns-in-Add-clause-fold_sum : goal.returns-in-Add-clause-fold_sum
returns-in-Add-clause-fold_sum c = λ d al e h k. sum_folds d (residue_of c.args.a) (residue_of c.args.b) (residue_of c.sum.result) al c.sum.ensures.step h k

pub returns-in-Sub-clause-holds : goal.returns-in-Sub-clause-holds
returns-in-Sub-clause-holds c = λ x y n h k v. subtracts c.args.op (residue_of c.args.a) (residue_of c.args.b) (residue_of c.difference.result) x y n c.in-Sub.is c.difference.ensures.step h k v

pub returns-in-Mul-clause-holds : goal.returns-in-Mul-clause-holds
returns-in-Mul-clause-holds c = λ x y n h k v. multiplies c.args.op (residue_of c.args.a) (residue_of c.args.b) (residue_of c.product.result) x y n c.in-Mul.is c.product.ensures.holds h k v

pub returns-in-Shl-clause-holds : goal.returns-in-Shl-clause-holds
returns-in-Shl-clause-holds c = λ x y n h k v. shifts c.args.op (residue_of c.args.a) (residue_of c.args.b) (residue_of c.powers.result) (residue_of c.product-in-Shl.result) x y n c.in-Shl.is c.powers.ensures.holds c.product-in-Shl.ensures.holds h k v

pub returns-in-Mul-clause-fold_left : goal.returns-in-Mul-clause-fold_left
returns-in-Mul-clause-fold_left c = λ d al e h. c.product.ensures.fold_left d al h

pub returns-in-Mul-clause-fold_right : goal.returns-in-Mul-clause-fold_right
returns-in-Mul-clause-fold_right c = λ d al e h. c.product.ensures.fold_right d al h

pub returns-in-Add-clause-bounds : goal.returns-in-Add-clause-bounds
returns-in-Add-clause-bounds c = rw c.in-Add.is c.sum.ensures.bounds

pub returns-in-Sub-clause-bounds : goal.returns-in-Sub-clause-bounds
returns-in-Sub-clause-bounds c = rw c.in-Sub.is c.difference.ensures.bounds

pub returns-in-Mul-clause-bounds : goal.returns-in-Mul-clause-bounds
returns-in-Mul-clause-bounds c = rw c.in-Mul.is c.product.ensures.bounds

pub returns-in-Shl-clause-bounds : goal.returns-in-Shl-clause-bounds
returns-in-Shl-clause-bounds c = rw c.in-Shl.is
    (shift_bounds (residue_of c.args.a) (residue_of c.args.b) (residue_of c.powers.result) (residue_of c.product-in-Shl.result) c.powers.ensures.one c.product-in-Shl.ensures.bounds)

pub returns-in_default-clause-bounds : goal.returns-in_default-clause-bounds
returns-in_default-clause-bounds c = c.other.ensures.bounds (is_other c.args.op c.in_default.not-Add c.in_default.not-Sub c.in_default.not-Mul c.in_default.not-Shl)
