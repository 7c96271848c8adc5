use Rattle.std.proofs.Common.{◌≡◌, ℤ, pos, arith, FitsSigned, rules, ⊎_elim, sym, subst}
use Rattle.intervals.specs.Bits.{IsLogical}
use Rattle.std.specs.Prelude.{Some}
use Rattle.std.proofs.lemmas.Int.{ints, to_z-of_z}
use mir.Syntax.{w128}
use Rattle.num_api.specs.declared.expr.NOp.TheVariants.{Rem}
use Rattle.num_api.specs.Residues.{InResidue}
use Rattle.num_api.specs.Value.{binary_value}
use Rattle.residues.specs.Class.{residue_of}
use Rattle.residues.proofs.Operators.{in_all, of_operator, at_points}
use Rattle.residues.proofs.ClassBounds.{other_points, other_default, not_logical}
use Rattle.residues.proofs.class.operators.other.Goals as goal

pub returns-then-b-eq0-clause-holds : goal.returns-then-b-eq0-clause-holds
returns-then-b-eq0-clause-holds c =
    let a = residue_of c.args.a in
    let b = residue_of c.args.b in
    let f1 : FitsSigned w128 a.rem = search rules in
    let f2 : FitsSigned w128 b.rem = search rules in
    let f3 : FitsSigned w128 a.modulus = search rules in
    let f4 : FitsSigned w128 b.modulus = search rules in
    let e : a.modulus ≡ pos 0 = omega (arith, ints) in
    let f : b.modulus ≡ pos 0 = omega (arith, ints) in
    let h : (n : ℤ) → binary_value c.args.op a.rem b.rem ≡ Some n → InResidue (residue_of c.at_numbers.result) n = simp to_z-of_z at c.at_numbers.ensures.holds in
    at_points c.args.op a b (residue_of c.at_numbers.result) e f h

pub returns-in-Rem-clause-holds : goal.returns-in-Rem-clause-holds
returns-in-Rem-clause-holds c = λ x y n h k v. c.rest.ensures.holds x y n h k (of_operator c.args.op Rem x y n c.in-Rem.is v)

pub returns-in_default-clause-holds : goal.returns-in_default-clause-holds
returns-in_default-clause-holds c = λ x y n h k v. in_all (residue_of c.all.result) n c.all.ensures

pub returns-in-And-clause-holds : goal.returns-in-And-clause-holds
returns-in-And-clause-holds c = λ x y n h k e.
    let logical : IsLogical c.args.op = ⊎_elim (λ o. subst IsLogical (sym o) tt) (⊎_elim (λ o. subst IsLogical (sym o) tt) (λ o. subst IsLogical (sym o) tt)) c.in-And.is in
    c.logical.ensures.holds x y n logical h k e

pub returns-then-b-eq0-clause-bounds : goal.returns-then-b-eq0-clause-bounds
returns-then-b-eq0-clause-bounds c = λ o.
    let a = residue_of c.args.a in
    let b = residue_of c.args.b in
    let f1 : FitsSigned w128 a.rem = search rules in
    let f2 : FitsSigned w128 b.rem = search rules in
    let f3 : FitsSigned w128 a.modulus = search rules in
    let f4 : FitsSigned w128 b.modulus = search rules in
    let e : a.modulus ≡ pos 0 = omega (arith, ints) in
    let f : b.modulus ≡ pos 0 = omega (arith, ints) in
    other_points c.args.op a b (residue_of c.at_numbers.result) o e f f1 f2 (rw (to_z-of_z w128 a.rem f1, to_z-of_z w128 b.rem f2) at c.at_numbers.ensures.value)

pub returns-in-Rem-clause-bounds : goal.returns-in-Rem-clause-bounds
returns-in-Rem-clause-bounds c = λ o. rw c.in-Rem.is c.rest.ensures.bounds

pub returns-in-And-clause-bounds : goal.returns-in-And-clause-bounds
returns-in-And-clause-bounds c = λ o.
    c.logical.ensures.bounds (⊎_elim (λ o. subst IsLogical (sym o) tt) (⊎_elim (λ o. subst IsLogical (sym o) tt) (λ o. subst IsLogical (sym o) tt)) c.in-And.is)

pub returns-in_default-clause-bounds : goal.returns-in_default-clause-bounds
returns-in_default-clause-bounds c = λ o.
    other_default c.args.op (residue_of c.args.a) (residue_of c.args.b) (residue_of c.all.result) o c.in_default.not-Rem (not_logical c.args.op c.in_default.not-And c.in_default.not-Or c.in_default.not-Xor)
