use Rattle.std.proofs.Common.{arith, FitsSigned}
use Rattle.std.proofs.lemmas.Int.{ints, to_z-of_z, quot_fits}
use Rattle.std.specs.Int.RustNames.{int_div}
use mir.Syntax.{w128}
use Rattle.residues.proofs.Crt.{exact_div}
use Rattle.residues.proofs.numbers.quotient.Goals as goal

pub returns : goal.returns
returns c =
    let f : FitsSigned w128 c.args.n = c.ranges.n in
    let g : FitsSigned w128 c.args.divisor = c.ranges.divisor in
    let h : FitsSigned w128 (int_div c.args.n c.args.divisor) = quot_fits w128 c.args.n c.args.divisor f (omega (arith, ints)) in
    simp to_z-of_z (exact_div c.args.n c.args.divisor c.requires.positive c.requires.multiple)
