use Rattle.std.proofs.Common.{ℤ, pos, ◌≤ℤ◌, ◌^◌, arith, FitsSigned, rules}
use Rattle.std.proofs.lemmas.Int.{ints, to_z-of_z}
use mir.Syntax.{w128}
use Rattle.num_api.specs.Residues.{IsMultiple}
use Rattle.residues.specs.Classes.{IsGreatestDivisor}
use Rattle.residues.proofs.Moves.{moved}
use Rattle.residues.proofs.Divisors.{divisor_bound}
use Rattle.residues.proofs.Steps.{divides_greatest}
use Rattle.residues.proofs.Products.{fold_power}
use Rattle.residues.proofs.class.products.power_in.Goals as goal

pub returns-clause-high : goal.returns-clause-high
returns-clause-high c =
    let f : FitsSigned w128 c.args.n = c.ranges.n in
    let h : FitsSigned w128 c.greatest_divisor.result = search rules in
    let d : IsGreatestDivisor c.args.n (pos (2 ^ 50)) c.greatest_divisor.result = simp to_z-of_z at c.greatest_divisor.ensures in
    moved (λ (t : ℤ). t ≤ℤ pos (2 ^ 50)) c.greatest_divisor.result h (divisor_bound c.greatest_divisor.result (pos (2 ^ 50)) d.second (omega (arith, ints)) d.not_negative)

pub returns-clause-folds : goal.returns-clause-folds
returns-clause-folds c =
    let f : FitsSigned w128 c.args.n = c.ranges.n in
    let h : FitsSigned w128 c.greatest_divisor.result = search rules in
    let d : IsGreatestDivisor c.args.n (pos (2 ^ 50)) c.greatest_divisor.result = simp to_z-of_z at c.greatest_divisor.ensures in
    λ e al i. moved (λ (t : ℤ). IsMultiple e t) c.greatest_divisor.result h (divides_greatest e c.args.n (pos (2 ^ 50)) c.greatest_divisor.result d i (fold_power e al))
