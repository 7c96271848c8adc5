use Rattle.std.proofs.Common.{ℤ, ◌≡◌, sym, FitsSigned, to_z, of_z, rules}
use Rattle.std.proofs.Common.{pos, arith}
use Rattle.std.proofs.lemmas.Int.{ints}
use mir.Syntax.{w128}
use Rattle.std.specs.Int.{int_rem_euclid}
use Rattle.num_api.specs.Residues.{InResidue}
use Rattle.num_api.specs.Residues.{class_of}
use Rattle.residues.proofs.Moves.{moved, unmoved}
use Rattle.num_api.proofs.Multiples.{in_along}
use Rattle.num_api.proofs.Remainders.{rem_same}
use Rattle.residues.proofs.Keeping.{no_rest, in_all}
use Rattle.residues.proofs.numbers.remainder.Goals as goal

pub returns-clause-same : goal.returns-clause-same
returns-clause-same c =
    let n = c.args.n in
    let m = c.args.modulus in
    let fits : FitsSigned w128 c.rem_euclid.result = search rules in
    let e : c.rem_euclid.result ≡ int_rem_euclid n m =
    unmoved (λ (t : ℤ). c.rem_euclid.result ≡ int_rem_euclid t m) n c.ranges.n
    (unmoved (λ (t : ℤ). c.rem_euclid.result ≡ int_rem_euclid (to_z w128 (of_z w128 n)) t) m c.ranges.modulus c.rem_euclid.ensures.value) in
    moved (λ (t : ℤ). InResidue (class_of t m) n) c.rem_euclid.result fits (in_along _ _ m n (sym e) (rem_same n m c.requires))

pub returns-then-modulus-eq1 : goal.returns-then-modulus-eq1
returns-then-modulus-eq1 c =
    let n = c.args.n in
    let m = c.args.modulus in
    let one : m ≡ pos 1 = omega (arith, ints) in
    record { value = no_rest n m one; same = in_all (class_of (pos 0) m) n one; low = omega (arith, ints); high = omega (arith, ints) }
