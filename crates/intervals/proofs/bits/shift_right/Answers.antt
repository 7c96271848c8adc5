use Rattle.std.proofs.Common.{◌≡◌, ℤ, ◌^◌, to_z, of_z, arith, ap, ◌∙◌, FitsSigned}
use Rattle.std.specs.Int.Signed.{shr_z, mag_shr}
use Rattle.std.proofs.Math.IntN.{nat_abs}
use Rattle.std.proofs.lemmas.Int.{ints, to_z-of_z}
use mir.Syntax.{w128}
use Rattle.intervals.proofs.Shifts.{shifted_right-is}
use Rattle.intervals.proofs.bits.shift_right.Goals as goal

same : (x m : ℤ) → FitsSigned w128 x → FitsSigned w128 m → to_z w128 (of_z w128 (shr_z (to_z w128 (of_z w128 x)) (2 ^ nat_abs (to_z w128 (of_z w128 m))))) ≡ shr_z x (2 ^ nat_abs m)
same x m f g =
    ap (λ v. to_z w128 (of_z w128 (shr_z v (2 ^ nat_abs (to_z w128 (of_z w128 m)))))) (to_z-of_z w128 x f)
    ∙ ap (λ v. to_z w128 (of_z w128 (shr_z x (2 ^ nat_abs v)))) (to_z-of_z w128 m g)
    ∙ to_z-of_z w128 (shr_z x (2 ^ nat_abs m)) (record { sfits = omega (arith, mag_shr x (2 ^ nat_abs m), f.sfits) })

pub returns-else-amount-lt0-clause-some : goal.returns-else-amount-lt0-clause-some
returns-else-amount-lt0-clause-some c =
    let fits : FitsSigned w128 c.min.result = record { sfits = c.min.type_inv } in
    let least = rw (to_z-of_z w128 c.args.amount c.ranges.amount) at c.min.ensures.value in
    shifted_right-is c.args.x c.args.amount c.min.result _ c.ranges.x (omega (arith, ints)) least (same c.args.x c.min.result c.ranges.x fits)
