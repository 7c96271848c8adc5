use Rattle.std.proofs.Common.{◌^◌, ◌<◌, pos, ap, ◌∙◌, ℕ, FitsSigned, arith}
use Rattle.std.specs.Int.{w128}
use Rattle.std.proofs.lemmas.Int.{ints, to_z-of_z}
use Rattle.csharp_state.proofs.Exactly.{shifted_one}
use Rattle.csharp_state.proofs.numbers.power.Goals as goal

pub returns-clause-is : goal.returns-clause-is
returns-clause-is c =
    let fits : FitsSigned w128 c.args.amount = c.ranges.amount in
    let is = simp to_z-of_z at c.unsigned_abs-places.ensures.value in
    let few : c.unsigned_abs-places.result < 127 = omega (arith, ints, is) in
    shifted_one c.unsigned_abs-places.result few ∙ ap (λ (k : ℕ). pos (2 ^ k)) is
