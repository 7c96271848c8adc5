use Rattle.std.proofs.Common.{ℤ, pos, ◌≡◌, arith, FitsSigned, subst, rules}
use Rattle.std.proofs.lemmas.Int.{ints, to_z-of_z}
use mir.Syntax.{w128}
use Rattle.num_api.specs.Residues.{class_of}
use Rattle.residues.specs.Classes.{IsGreatestDivisor}
use Rattle.num_api.specs.Residues.{InResidue}
use Rattle.residues.proofs.Moves.{moved}
use Rattle.residues.proofs.Divisors.{divisor_of_zero, divisor_step}
use Rattle.residues.proofs.numbers.+greatest_divisor.Goals as goal

pub returns-then-b-eq0 : goal.returns-then-b-eq0
returns-then-b-eq0 t c =
    let e : pos 0 ≡ c.args.b = omega (arith, ints) in
    moved (λ (z : ℤ). IsGreatestDivisor c.args.a c.args.b z) c.args.a c.ranges.a
    (subst (λ (z : ℤ). IsGreatestDivisor c.args.a z c.args.a) e (divisor_of_zero c.args.a c.requires.a_is_not_negative))

pub returns-else-b-eq0 : goal.returns-else-b-eq0
returns-else-b-eq0 t c =
    let f : FitsSigned w128 c.args.a = c.ranges.a in
    let g : FitsSigned w128 c.args.b = c.ranges.b in
    let h : FitsSigned w128 c.remainder.result = search rules in
    let i : FitsSigned w128 c.greatest_divisor.result = search rules in
    let same : InResidue (class_of c.remainder.result c.args.b) c.args.a = simp to_z-of_z at c.remainder.ensures.same in
    let found : IsGreatestDivisor c.args.b c.remainder.result c.greatest_divisor.result = simp to_z-of_z at c.greatest_divisor.ensures in
    moved (λ (z : ℤ). IsGreatestDivisor c.args.a c.args.b z) c.greatest_divisor.result i
    (divisor_step c.args.a c.args.b c.remainder.result c.greatest_divisor.result same found)
