use Rattle.std.proofs.Common.{◌≡◌, ℤ, pos, arith, FitsSigned, rules}
use Rattle.std.specs.Prelude.{Some}
use Rattle.std.proofs.lemmas.Int.{ints, to_z-of_z}
use mir.Syntax.{w128}
use Rattle.num_api.specs.Value.{binary_value}
use Rattle.residues.specs.Class.{residue_of}
use Rattle.residues.proofs.Inward.{if_some_map}
use Rattle.residues.proofs.class.operators.at_two_numbers.Goals as goal

pub returns-then-b-eq0-clause-some : goal.returns-then-b-eq0-clause-some
returns-then-b-eq0-clause-some c =
    let a = residue_of c.args.a in
    let b = residue_of c.args.b in
    let f1 : FitsSigned w128 a.rem = search rules in
    let f2 : FitsSigned w128 b.rem = search rules in
    let f3 : FitsSigned w128 a.modulus = search rules in
    let f4 : FitsSigned w128 b.modulus = search rules in
    let e : a.modulus ≡ pos 0 = omega (arith, ints) in
    let f : b.modulus ≡ pos 0 = omega (arith, ints) in
    if_some_map (λ n. (m : ℤ) → binary_value c.args.op a.rem b.rem ≡ Some m → m ≡ n) (λ n. (a.modulus ≡ pos 0) × (b.modulus ≡ pos 0) × ((m : ℤ) → binary_value c.args.op a.rem b.rem ≡ Some m → m ≡ n)) c.number_at.result
    (λ n h. (e, f, h))
    (rw (to_z-of_z w128 a.rem f1, to_z-of_z w128 b.rem f2) at c.number_at.ensures.some)
