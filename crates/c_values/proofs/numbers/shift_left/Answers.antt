use Rattle.std.proofs.Common.{ℤ, pos, ◌*ℤ◌, ◌^◌, FitsSigned, subst, rules}
use Rattle.std.specs.Int.{w128}
use Rattle.std.proofs.lemmas.Int.{to_z-of_z}
use Rattle.c_values.proofs.Ranges.{shifted_product}
use Rattle.c_values.proofs.numbers.shift_left.Goals as goal

pub overflow_mul-exact : goal.overflow_mul-exact
overflow_mul-exact c =
    let fits : FitsSigned w128 (c.args.a *ℤ pos (2 ^ c.args.places)) = shifted_product c.args.t c.args.a c.args.places c.requires.left c.requires.right in
    let fa : FitsSigned w128 c.args.a = c.ranges.a in
    let fp : FitsSigned w128 c.power_of_two.result = search rules in
    rw (to_z-of_z w128 c.args.a fa, to_z-of_z w128 c.power_of_two.result fp, c.power_of_two.ensures) fits

pub returns : goal.returns
returns c =
    let fits : FitsSigned w128 (c.args.a *ℤ pos (2 ^ c.args.places)) = shifted_product c.args.t c.args.a c.args.places c.requires.left c.requires.right in
    let fa : FitsSigned w128 c.args.a = c.ranges.a in
    let fp : FitsSigned w128 (pos (2 ^ c.args.places)) = subst (λ (n : ℤ). FitsSigned w128 n) c.power_of_two.ensures (search rules) in
    let h = rw (c.power_of_two.ensures, c.greatest.ensures) at c.in_range.ensures in
    simp to_z-of_z at h
