use Rattle.std.proofs.Common.{◌≡◌, ◌^◌, ℤ, pos, arith, sym, subst, FitsSigned, to_z, rules}
use Rattle.std.proofs.lemmas.Int.{ints}
use mir.Syntax.{w128}
use lib.IntN.{nat_abs}
use Rattle.std.proofs.Common.{◌<◌, ◌*◌, ◌%◌}
use Rattle.residues.specs.Class.{residue_of}
use Rattle.num_api.specs.Residues.{class_of}
use Rattle.residues.proofs.Moves.{unmoved}
use Rattle.residues.specs.Laws.{one_number}
use Rattle.residues.proofs.Operators.{in_all, in_point, power_bits}
use Rattle.std.proofs.Common.{ap}
use Rattle.num_api.specs.declared.message.Residue.{Residue}
use Rattle.residues.proofs.class.operators.powers.Goals as goal

pub returns-then-a-lt127-clause-holds : goal.returns-then-a-lt127-clause-holds
returns-then-a-lt127-clause-holds c = λ k h.
    let a = residue_of c.args.a in
    let f1 : FitsSigned w128 a.rem = search rules in
    let f2 : FitsSigned w128 a.modulus = search rules in
    let e : a.modulus ≡ pos 0 = omega (arith, ints) in
    let u : pos k ≡ a.rem = one_number a (pos k) e h in
    let l : k < 127 = omega (arith, ints, u) in
    let at : ℤ → Type 0 = λ t. residue_of c.point.result ≡ class_of (to_z w128 ((1 * 2 ^ nat_abs t) % 2 ^ 128)) (pos 0) in
    let q : residue_of c.point.result ≡ class_of (to_z w128 ((1 * 2 ^ k) % 2 ^ 128)) (pos 0) = subst at (sym u) (unmoved at a.rem f1 c.point.ensures) in
    in_point (residue_of c.point.result) (pos (2 ^ k)) (subst (λ (t : ℤ). residue_of c.point.result ≡ class_of t (pos 0)) (power_bits k l) q)

pub returns-clause-holds : goal.returns-clause-holds
returns-clause-holds c = λ k h. in_all (residue_of c.all.result) (pos (2 ^ k)) c.all.ensures

pub returns-then-a-lt127-clause-one : goal.returns-then-a-lt127-clause-one
returns-then-a-lt127-clause-one c = λ k l h.
    let a = residue_of c.args.a in
    let f1 : FitsSigned w128 a.rem = search rules in
    let u : pos k ≡ a.rem = sym (ap (λ (r : Residue). r.rem) h) in
    let at : ℤ → Type 0 = λ t. residue_of c.point.result ≡ class_of (to_z w128 ((1 * 2 ^ nat_abs t) % 2 ^ 128)) (pos 0) in
    let q : residue_of c.point.result ≡ class_of (to_z w128 ((1 * 2 ^ k) % 2 ^ 128)) (pos 0) = subst at (sym u) (unmoved at a.rem f1 c.point.ensures) in
    subst (λ (t : ℤ). residue_of c.point.result ≡ class_of t (pos 0)) (power_bits k l) q
