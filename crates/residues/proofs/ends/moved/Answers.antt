use Rattle.std.proofs.Common.{◌≡◌, pos, arith, FitsSigned, rules}
use Rattle.std.proofs.lemmas.Int.{ints}
use mir.Syntax.{w128}
use Rattle.residues.proofs.Keeping.{all_stays}
use Rattle.residues.proofs.ends.moved.Goals as goal

pub returns-then-c-eq1 : goal.returns-then-c-eq1
returns-then-c-eq1 c =
    let f : FitsSigned w128 c.args.c.modulus = search rules in
    let one : c.args.c.modulus ≡ pos 1 = omega (arith, ints) in
    all_stays c.args.c c.args.r one
