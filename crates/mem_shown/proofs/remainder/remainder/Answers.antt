use Rattle.std.proofs.Common.{◌≡◌, pos, arith}
use Rattle.std.proofs.lemmas.Int.{ints}
use Rattle.residues.proofs.Keeping.{no_rest}
use Rattle.mem_shown.proofs.remainder.remainder.Goals as goal

pub returns-then-modulus-eq1 : goal.returns-then-modulus-eq1
returns-then-modulus-eq1 c =
    let m = c.args.modulus in
    let one : m ≡ pos 1 = omega (arith, ints) in
    record { value = no_rest c.args.n m one; low = omega (arith, ints); high = omega (arith, ints) }
