use Rattle.std.proofs.Common.{◌≡◌, Some, subst}
use Rattle.num_api.specs.declared.expr.NOp.{NOp}
use Rattle.num_api.specs.Value.{binary_value}
use Rattle.std.proofs.Common.{FitsSigned, rules}
use Rattle.std.proofs.lemmas.Int.{to_z-of_z}
use mir.Syntax.{w128}
use Rattle.residues.specs.Class.{residue_of}
use Rattle.residues.proofs.ClassBounds.{logical_default, low_bounds}
use Rattle.residues.proofs.class.bits.logical.Goals as goal

pub returns-in-And-clause-holds : goal.returns-in-And-clause-holds
returns-in-And-clause-holds c = λ x y n l h k e. c.both.ensures.holds x y n h k (subst (λ (o : NOp). binary_value o x y ≡ Some n) c.in-And.is e)

pub returns-in-And-clause-bounds : goal.returns-in-And-clause-bounds
returns-in-And-clause-bounds c = λ l. rw c.in-And.is c.both.ensures.bounds

pub returns-in_default-clause-bounds : goal.returns-in_default-clause-bounds
returns-in_default-clause-bounds c = λ l.
    let a = residue_of c.args.a in
    let b = residue_of c.args.b in
    let step = c.common_power-step.result in
    let f : FitsSigned w128 a.modulus = search rules in
    let g : FitsSigned w128 b.modulus = search rules in
    let h : FitsSigned w128 step = record { sfits = c.common_power-step.type_inv } in
    let known = rw (to_z-of_z w128 step h) at c.known_bits.ensures.bounds in
    logical_default c.args.op a b (residue_of c.known_bits.result) l c.in_default.not-And
    (low_bounds c.args.op a b (residue_of c.known_bits.result) step (rw (to_z-of_z w128 a.modulus f, to_z-of_z w128 b.modulus g) at c.common_power-step.ensures.greatest) (known l))

pub both-requires-clause-greatest : goal.both-requires-clause-greatest
both-requires-clause-greatest c =
    let a = residue_of c.args.a in
    let b = residue_of c.args.b in
    let step = c.common_power-step.result in
    let f : FitsSigned w128 a.modulus = search rules in
    let g : FitsSigned w128 b.modulus = search rules in
    let h : FitsSigned w128 step = record { sfits = c.common_power-step.type_inv } in
    rw (to_z-of_z w128 step h) (rw (to_z-of_z w128 a.modulus f, to_z-of_z w128 b.modulus g) at c.common_power-step.ensures.greatest)
